-- `samples::Limits::first_fault` meets its contract: the samples before the one at fault are sound.
use Prim.Native.Nat.{ℕ, ◌+◌, ◌*◌, ◌<◌}
use mathlib.Core.Path.{◌≡◌, sym, ap, ◌∙◌}
use mathlib.Core.Bool.{Bool}
use mathlib.Core.List.{List, []}
use native.Mathlib.Omega.{arith}
use lib.ListN.{length, get_or, drop, drop_of_length-le}
use Rattle.std.specs.Prelude.{Result}
use Rattle.refusal.specs.declared.Refusal.{Refusal}
use Rattle.samples.specs.declared.Coding.TheVariants.{Codes}
use Rattle.samples.proofs.Reading.{length_two}
use Rattle.samples.proofs.Judging.{say_at}
use Rattle.refusal.specs.Answers.{verdict, accepted, decides}
use Rattle.samples.specs.Samples.{two_by_two}
use Rattle.samples.specs.Faults.{fault, samples_say}
use Rattle.samples.proofs.Limits.first_fault.Goals as goal

-- What was found of the k-th sample decides, or those behind it do.
judged_here :
    (chroma : Bool) (greatest count : ℕ) (xs : List ℕ) (k x : ℕ) (judged answer : Result Unit Refusal) → k < length xs → x ≡ get_or xs k 0
    → verdict judged ≡ fault (Codes greatest chroma) k x → judged ≡ answer
    → samples_say (Codes greatest chroma) (accepted count) k (drop k xs)
    ≡ decides (verdict answer) (2 * k) (samples_say (Codes greatest chroma) (accepted count) (k + 1) (drop (k + 1) xs))
judged_here chroma greatest count xs k x judged answer below is said e =
    say_at (Codes greatest chroma) (accepted count) xs k below
    ∙ ap (λ v. decides v (2 * k) (samples_say (Codes greatest chroma) (accepted count) (k + 1) (drop (k + 1) xs)))
    (ap (fault (Codes greatest chroma) k) (sym is) ∙ sym said ∙ ap verdict e)

pub loop-k-init : goal.loop-k-init
loop-k-init c =
    c.requires.skips (accepted c.args.count)

pub returns-in-Err : goal.returns-in-Err
returns-in-Err c =
    let a = c.args in
    let below : c.loop-k.k < length (two_by_two a.src.now) = omega (arith, length_two a.src.now) in
    rw c.at.ensures
    (sym
    (c.loop-k.invariant
    ∙ judged_here a.self.chroma a.self.greatest a.count (two_by_two a.src.now) c.loop-k.k _ _ _ below c.wide_sample.ensures c.look_at.ensures c.in-Err.is))

pub loop-k-preserved : goal.loop-k-preserved
loop-k-preserved c =
    let a = c.args in
    let below : c.loop-k.k < length (two_by_two a.src.now) = omega (arith, length_two a.src.now) in
    c.loop-k.invariant
    ∙ judged_here a.self.chroma a.self.greatest a.count (two_by_two a.src.now) c.loop-k.k _ _ _ below c.wide_sample.ensures c.look_at.ensures c.in-Ok.is

pub returns : goal.returns
unfolding samples_say
returns c =
    let a = c.args in
    let rest : drop c.loop-k.k (two_by_two a.src.now) ≡ [] = drop_of_length-le _ {i = c.loop-k.k} (omega (arith, length_two a.src.now)) in
    sym (c.loop-k.invariant ∙ rw rest)
