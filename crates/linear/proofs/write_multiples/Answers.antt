-- `linear::write_multiples` meets its contract: a turn writes the light of one more sample, and the last leaves none.
use Prim.Native.Nat.{ℕ, suc, ◌+◌, ◌*◌}
use mathlib.Core.List.{List, ◌∷◌, map}
use mathlib.Core.Path.{◌≡◌, refl, sym, ap, ◌∙◌}
use native.Mathlib.Omega.{arith}
use lib.ListN.{get_or, drop, length-set}
use lib.IntN.{ℤ}
use mir.Syntax.{w32}
use mir.Val.{to_z, of_z}
use mir.ValLaws.{to_z-of_z}
use Rattle.samples.specs.Samples.{two_by_two}
use Rattle.samples.proofs.Reading.{length_two}
use Rattle.transfer.specs.Light.{light_of_code}
use Rattle.numbers.proofs.Writing.{written_more, written_all, take-one}
use Rattle.linear.proofs.write_multiples.Goals as goal

abbrev multiples : ℕ → List ℕ → List ℤ
multiples factor = map (λ (x : ℕ). light_of_code 16 (factor * x))

pub loop-k-preserved : goal.loop-k-preserved
loop-k-preserved g c =
    let a = c.args in
    let k = c.loop-k.k in
    let factor = g.row.FACTOR in
    let light : to_z w32 (of_z w32 c.light_of.result) ≡ light_of_code 16 (factor * get_or (two_by_two a.src.now) k 0) =
    to_z-of_z w32 _ (record { sfits = c.light_of.type_inv }) ∙ c.light_of.ensures ∙ ap (λ (x : ℕ). light_of_code 16 (factor * x)) c.sample.ensures in (
      simp length-set c.loop-k.invariant.0,
      written_more (multiples factor) (two_by_two a.src.now) 0 k k (k + 1) c.loop-k.dst _ _ (omega (arith, length_two a.src.now))
          (take-one c.loop-k.dst k _ (omega arith))
          (ap (λ (x : ℤ). x ∷ multiples factor (drop (suc k) (two_by_two a.src.now))) (sym light))
          c.loop-k.invariant.1,
    )

pub returns : goal.returns
returns g c =
    let a = c.args in
    written_all (multiples g.row.FACTOR) (two_by_two a.src.now) c.loop-k.dst c.loop-k.k c.loop-k.k refl
    (omega (arith, length_two a.src.now)) (omega arith) c.loop-k.invariant.1
