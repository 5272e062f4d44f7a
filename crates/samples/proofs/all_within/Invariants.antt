-- `samples::all_within` meets its contract. The invariant: nothing gathered so far, and the samples left within bounds, is all of them within.
use mathlib.Core.Path.{◌≡◌}
use mathlib.Core.Bool.{◌&&◌}
use lib.Dec.{eqb}
use lib.ListN.{drop}
use Rattle.samples.specs.Samples.{two_by_two}
use Rattle.samples.specs.HowJudged.{all_within}
use Rattle.samples.proofs.all_within.Given as goal

abbrev pub invariant-loop-k : goal.invariant-loop-k
invariant-loop-k l =
    all_within l.least l.greatest (two_by_two l.src) ≡ eqb l.outside 0 && all_within l.least l.greatest (drop l.k (two_by_two l.src))
