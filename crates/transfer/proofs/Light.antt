-- Light by level: when a number is the light of a level, so that a table of light is right by tests.
-- Assumes nothing.
use Prim.Native.Nat.{ℕ, suc, ◌-◌, ◌*◌, ◌^◌}
use mathlib.Core.Path.{◌≡◌, sym}
use mathlib.Core.Bool.{Bool, true, false, cond, not, and-eq-true_iff, ◌&&◌}
use mathlib.Core.List.{List}
use native.Mathlib.Omega.{arith}
use native.Mathlib.Nat.{le_trans, mul-le-mul_right, pow-le-pow_left}
use borrow.Author.Tests.{leb-true, le-leb, eqb-true, not-true}
use lib.Dec.{leb, eqb}
use lib.ListN.{length, get_or}
use Rattle.numbers.specs.Rounding.{nearest}
use Rattle.transfer.specs.Search.{last_passing}
use Rattle.esrgb.specs.Depths.{scale}
use Rattle.transfer.specs.Light.{low_level, reaches_light, greatest_light, light_of_level}
use Rattle.transfer.specs.HowTabled.{levels, LightTable}
use Rattle.transfer.proofs.Search.{Falls, last_is}
use Rattle.transfer.proofs.Every.{every, passes_at}

pub reaches_light_falls : (S v : ℕ) → Falls (reaches_light S v)
unfolding reaches_light
reaches_light_falls S v j k h t =
    le-leb _ _ (le_trans (mul-le-mul_right ((211 * S) ^ 12) (pow-le-pow_left {n = 2 * j - 1} {m = 2 * k - 1} (omega arith) 5)) (leb-true _ _ t))

-- Beyond the line, q is the light if the power is at least q − 1/2 and not q + 1/2: two tests, and no search.
abbrev pub is_power : ℕ → ℕ → ℕ → Bool
is_power S v q = leb q greatest_light && (reaches_light S v q && not (reaches_light S v (suc q)))

unfoldable pub is_light : ℕ → ℕ → ℕ → Bool
is_light S v q = cond (low_level S v) (eqb (nearest (10 ^ 8 * v) (1292 * S)) q) (is_power S v q)

light_by :
    (S v q : ℕ) (b : Bool) → cond b (eqb (nearest (10 ^ 8 * v) (1292 * S)) q) (is_power S v q) ≡ true
    → cond b (nearest (10 ^ 8 * v) (1292 * S)) (last_passing (reaches_light S v) greatest_light) ≡ q
light_by S v q true t = eqb-true _ _ t
light_by S v q false t =
    let p = (and-eq-true_iff (leb q greatest_light) (reaches_light S v q && not (reaches_light S v (suc q)))).0 t in
    let r = (and-eq-true_iff (reaches_light S v q) (not (reaches_light S v (suc q)))).0 p.1 in
    last_is (reaches_light S v) (reaches_light_falls S v) greatest_light q (leb-true _ _ p.0) r.0 (not-true _ r.1)

pub light_is : (S v q : ℕ) → is_light S v q ≡ true → light_of_level S v ≡ q
unfolding light_of_level is_light
light_is S v q t = light_by S v q (low_level S v) t

-- The table of light, by one test over all of it. The table itself is read off the goal.
pub light_table_holds : {lights : List ℕ} → length lights ≡ suc (levels 12) → every (is_light (scale 12)) 0 lights ≡ true → LightTable lights
light_table_holds {lights} size t =
    record { at = λ v h. sym (light_is (scale 12) v (get_or lights v 0) (passes_at (is_light (scale 12)) lights t v (omega (arith, size)))) }
