-- `picture::narrow_samples` meets its contract: the greatest sample, and whether it is outside, turn by turn and at the end.
use Prim.Native.Nat.{◌<◌}
use mathlib.Core.Path.{◌≡◌, sym, ◌∙◌}
use mathlib.Core.Bool.{true, false}
use mathlib.Core.List.{[]}
use native.Mathlib.Omega.{arith}
use lib.Dec.{ltb}
use lib.ListN.{length, drop, drop_of_length-le}
use mir.Syntax.{w16}
use mir.ValLaws.{to_z-of_z}
use borrow.Author.Tests.{le-ltb}
use Rattle.numbers.specs.HowRanked.{rank}
use Rattle.numbers.proofs.Booleans.{or_right}
use Rattle.samples.specs.Samples.{samples_of}
use Rattle.samples.proofs.Reading.{length_samples}
use Rattle.esrgb.specs.HowApplied.{to_eight}
use Rattle.picture.specs.HowConverted.{some_outside}
use Rattle.picture.proofs.Filling.{none_written, one_more, samples_done}
use Rattle.picture.proofs.Narrowing.{sample_more}
use Rattle.picture.proofs.narrow_samples.Goals as goal

pub loop-k-init : goal.loop-k-init
unfolding rank
loop-k-init c =
    let a = c.args in
    (none_written false (to_eight a.cut) (samples_of true a.src.now) a.dst.now, rw (le-ltb a.gamut.span 0 (omega arith)))

pub loop-k-preserved : goal.loop-k-preserved
loop-k-preserved c =
    let a = c.args in
    let xs = samples_of true a.src.now in
    let inside : c.loop-k.k < length xs = omega (arith, c.sample_count-k-end.ensures, length_samples true a.src.now) in (
      one_more true false (to_eight a.cut) a.src.now c.loop-k.dst c.put.new.dst c.loop-k.k _ (omega (arith, c.sample_count-k-end.ensures)) (rw (c.apply.ensures, c.sample-x.ensures)) c.put.ensures c.loop-k.invariant.0,
      c.loop-k.invariant.1 ∙ sample_more a.gamut xs c.loop-k.k _ inside
          ∙ rw (to_z-of_z w16 c.raised-top.result (record { sfits = c.raised-top.type_inv }), c.raised-top.ensures, c.above_lowest.ensures, c.sample-x.ensures, c.loop-k.top-is),
    )

pub returns-clause-bytes : goal.returns-clause-bytes
returns-clause-bytes c =
    let a = c.args in
    samples_done true false (to_eight a.cut) a.src.now a.dst.now c.loop-k.dst c.loop-k.k c.requires c.loop-k.auto.dst
    (omega (arith, c.sample_count-k-end.ensures)) c.loop-k.invariant.0

pub returns-clause-clips : goal.returns-clause-clips
unfolding some_outside
returns-clause-clips c =
    let a = c.args in
    let xs = samples_of true a.src.now in
    let rest : drop c.loop-k.k xs ≡ [] = drop_of_length-le xs {i = c.loop-k.k} (omega (arith, c.sample_count-k-end.ensures, length_samples true a.src.now)) in
    sym (c.loop-k.invariant.1 ∙ rw (rest, c.rank_of.ensures, c.loop-k.top-is) (or_right (ltb a.gamut.span (rank c.loop-k.top))))
