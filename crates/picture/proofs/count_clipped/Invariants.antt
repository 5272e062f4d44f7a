-- `picture::count_clipped` meets its contract. The invariant: the count so far, and that of the pixels left, is the count of all.
use Prim.Native.Nat.{◌+◌}
use mathlib.Core.Path.{◌≡◌}
use mathlib.Core.Bool.{true}
use lib.ListN.{drop}
use Rattle.numbers.specs.Counting.{how_many}
use Rattle.samples.specs.Samples.{read}
use Rattle.picture.specs.HowConverted.{pixel_outside}
use Rattle.picture.proofs.count_clipped.Given as goal

abbrev pub invariant-loop-j : goal.invariant-loop-j
invariant-loop-j l =
    (how_many (pixel_outside l.gamut) (read true l.src) ≡ l.count + how_many (pixel_outside l.gamut) (drop l.j (read true l.src)))
