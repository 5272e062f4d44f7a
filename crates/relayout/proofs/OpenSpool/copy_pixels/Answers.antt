-- `relayout::OpenSpool::copy_pixels` meets its contract.
use Rattle.std.proofs.Common.{◌≡◌, ℕ, ◌+◌, ◌-◌, ◌≤◌, ◌<◌, List, ◌++◌, length, sym, ap, ◌∙◌, length-append, arith, rules}
use Rattle.spool.specs.Find.{frame_pixels}
use Rattle.relayout.specs.Relayout.{frame_pixels_from}
use Rattle.relayout.specs.HowCarried.{over}
use Rattle.relayout.proofs.Frames.{pixels_more, pixels_none}
use Rattle.relayout.proofs.Copying.{over_none, same_length as kept-length, over-more, put_over}
use Rattle.relayout.proofs.OpenSpool.copy_pixels.Goals as goal

-- This frame's pixels come first of those that are left.
this_first : (file part : List ℕ) (count k : ℕ) → k < count → part ≡ frame_pixels file k
    → frame_pixels_from file (count - k) k ≡ part ++ frame_pixels_from file (count - (k + 1)) (k + 1)
this_first file part count k below is =
    pixels_more file count k below ∙ ap (λ (x : List ℕ). x ++ frame_pixels_from file (count - (k + 1)) (k + 1)) (sym is)

-- There is room for a frame's pixels before those of the frames to come.
room_for : (d part rest more : List ℕ) (at : ℕ) → more ≡ part ++ rest → at + length more ≤ length d → (at + length part ≤ length d) × (at + length part + length rest ≤ length d)
room_for d part rest more at e room =
    let all : length more ≡ length part + length rest = ap length e ∙ length-append part rest in
    (omega (arith, all), omega (arith, all))

pub slice_bounds-copy_from_slice-end : goal.slice_bounds-copy_from_slice-end
slice_bounds-copy_from_slice-end c =
    let spool = c.args.self.now in
    let loop = c.loop-k in
    let part = c.pixels-part.result.now in
    let rest = frame_pixels_from spool.file.now (spool.count - (loop.k + 1)) (loop.k + 1) in
    let more = this_first spool.file.now part spool.count loop.k c.loop-k-test.true c.pixels-part.ensures.bytes in
    let fits : loop.at + length part ≤ length loop.dst = (room_for loop.dst part rest _ loop.at more loop.invariant.0).0 in
    search rules

pub loop-k-preserved : goal.loop-k-preserved
loop-k-preserved c =
    let spool = c.args.self.now in
    let loop = c.loop-k in
    let part = c.pixels-part.result.now in
    let rest = frame_pixels_from spool.file.now (spool.count - (loop.k + 1)) (loop.k + 1) in
    let more = this_first spool.file.now part spool.count loop.k c.loop-k-test.true c.pixels-part.ensures.bytes in
    let room = room_for loop.dst part rest _ loop.at more loop.invariant.0 in
    let put = put_over loop.dst part loop.at c.copy_from_slice.ensures.after in (
      rw (ap length put ∙ kept-length loop.dst part loop.at room.0) room.1,
      ap (λ (x : List ℕ). over x (loop.at + length part) rest) put ∙ over-more loop.dst part loop.at room.0 rest ∙ ap (over loop.dst loop.at) (sym more) ∙ loop.invariant.1,
    )

pub returns : goal.returns
returns c =
    let spool = c.args.self.now in
    let loop = c.loop-k in
    sym (ap (over loop.dst loop.at) (pixels_none spool.file.now spool.count loop.k c.loop-k-test.false) ∙ over_none loop.dst loop.at) ∙ loop.invariant.1
