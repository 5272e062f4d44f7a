-- `relayout::OpenSpool::check_frames` meets its contract: the frames from the number on say, with the bytes so far, what all of them say.
use Rattle.std.proofs.Common.{◌≡◌, ◌+◌, ◌-◌, ◌*◌, ◌≤◌}
use Rattle.refusal.specs.Answers.{accepted}
use Rattle.records.proofs.Sizes.{most_pixel_bytes}
use Rattle.layout.specs.LayOut.{all_pixels}
use Rattle.relayout.specs.Relayout.{records_from, records_of, frames_say}
use Rattle.relayout.proofs.OpenSpool.check_frames.Given as goal

abbrev pub invariant-loop-k : goal.invariant-loop-k
invariant-loop-k l =
    let file = l.self.file.now in
    let left = l.self.count - l.k in
    (l.sum ≤ l.k * most_pixel_bytes)
    × (frames_say file (accepted (l.sum + all_pixels (records_from file left l.k))) left l.k ≡ frames_say file (accepted (all_pixels (records_of file))) l.self.count 0)
