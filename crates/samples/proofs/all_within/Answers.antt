-- `samples::all_within` meets its contract. The invariant: nothing gathered so far, and the samples left within bounds, is all of them within.
use Prim.Native.Nat.{◌+◌}
use mathlib.Core.Path.{◌≡◌, sym, ap, ◌∙◌}
use mathlib.Core.List.{[]}
use mathlib.Core.Bool.{◌&&◌}
use native.Mathlib.Omega.{arith}
use lib.Dec.{eqb}
use lib.ListN.{get_or, drop, drop_of_length-le}
use Rattle.samples.proofs.Reading.{length_two}
use Rattle.samples.proofs.Judging.{within-at, one_more}
use Rattle.numbers.proofs.Booleans.{and_right}
use Rattle.samples.specs.Samples.{two_by_two}
use Rattle.samples.specs.HowJudged.{all_within}
use Rattle.samples.proofs.all_within.Goals as goal

pub loop-k-preserved : goal.loop-k-preserved
loop-k-preserved c =
    let a = c.args in
    let xs = two_by_two a.src.now in
    let k = c.loop-k.k in
    c.loop-k.invariant
    ∙ ap (λ w. eqb c.loop-k.outside 0 && w) (within-at a.least a.greatest xs k (omega (arith, length_two a.src.now)))
    ∙ one_more c.loop-k.outside a.least a.greatest (get_or xs k 0) (all_within a.least a.greatest (drop (k + 1) xs))
    ∙ rw (c.excess-in-loop-k.ensures, c.excess.ensures, c.wide_sample-x.ensures)

pub returns : goal.returns
unfolding all_within
returns c =
    let a = c.args in
    let rest : drop c.loop-k.k (two_by_two a.src.now) ≡ [] = drop_of_length-le _ {i = c.loop-k.k} (omega (arith, length_two a.src.now)) in
    sym (c.loop-k.invariant ∙ rw rest (and_right (eqb c.loop-k.outside 0)))
