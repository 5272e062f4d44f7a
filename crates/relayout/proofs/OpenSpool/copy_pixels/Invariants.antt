-- `relayout::OpenSpool::copy_pixels` meets its contract: there is room for the pixels that are left, and with them all are copied.
use Rattle.std.proofs.Common.{◌≡◌, ◌+◌, ◌-◌, ◌≤◌, length}
use Rattle.relayout.specs.Relayout.{frame_pixels_from, pixels_of}
use Rattle.relayout.specs.HowCarried.{over}
use Rattle.relayout.proofs.OpenSpool.copy_pixels.Given as goal

abbrev pub invariant-loop-k : goal.invariant-loop-k
invariant-loop-k l =
    let left = frame_pixels_from l.self.file.now (l.self.count - l.k) l.k in
    (l.at + length left ≤ length l.dst)
    × (over l.dst l.at left ≡ over l.fn.dst l.first (pixels_of l.self.file.now))
