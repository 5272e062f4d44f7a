-- `picture::narrow_samples` meets its contract. The invariant: the samples so far are written, and the greatest of them and the samples
-- left tell whether one is outside.
use mathlib.Core.Path.{◌≡◌}
use mathlib.Core.Bool.{true, false, ◌||◌}
use lib.Dec.{ltb}
use lib.ListN.{drop}
use Rattle.numbers.specs.HowRanked.{rank}
use Rattle.numbers.proofs.Writing.{Written}
use Rattle.samples.specs.Samples.{place, samples_of}
use Rattle.esrgb.specs.HowApplied.{to_eight}
use Rattle.picture.specs.HowConverted.{some_outside}
use Rattle.picture.proofs.Filling.{bytes_by}
use Rattle.picture.proofs.narrow_samples.Given as goal

abbrev pub invariant-loop-k : goal.invariant-loop-k
invariant-loop-k l =
    Written (bytes_by false (to_eight l.cut)) (samples_of true l.src) l.dst (place false l.k) l.k
    × (some_outside l.gamut (samples_of true l.src) ≡ ltb l.gamut.span (rank l.top) || some_outside l.gamut (drop l.k (samples_of true l.src)))
