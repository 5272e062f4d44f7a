-- `picture::fill_srgb` meets its contract. The invariant: the blocks so far are written and counted, and what is left makes the whole.
use Prim.Native.Nat.{◌+◌, ◌*◌, ◌≤◌}
use mathlib.Core.Path.{◌≡◌}
use mathlib.Core.Bool.{true}
use lib.ListN.{drop}
use Rattle.numbers.specs.Counting.{how_many}
use Rattle.numbers.proofs.Writing.{Written}
use Rattle.samples.specs.Samples.{read}
use Rattle.esrgb.specs.Depths.{bits}
use Rattle.esrgb.specs.HowApplied.{gamut_of}
use Rattle.picture.specs.HowConverted.{narrowed, pixel_outside}
use Rattle.picture.proofs.fill_srgb.Given as goal

abbrev pub invariant-loop-start : goal.invariant-loop-start
invariant-loop-start l =
    (l.start ≤ l.pixels)
    × Written (narrowed (bits l.depth)) l.src l.dst (3 * l.start) (6 * l.start)
    × (how_many (pixel_outside (gamut_of (bits l.depth))) (read true l.src)
    ≡ l.count + how_many (pixel_outside (gamut_of (bits l.depth))) (read true (drop (6 * l.start) l.src)))
