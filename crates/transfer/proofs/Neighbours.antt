-- A fact of the lights of every 12-bit level and the next, by one test that is computed over all of them. It works out each light from the two
-- before it, so that no table stands here, and two power tests of each show that it is the light.
-- Assumes nothing.
use Prim.Native.Nat.{ℕ, zero, suc, ◌+◌, ◌-◌, ◌*◌, ◌^◌, ◌<◌}
use mathlib.Core.Path.{◌≡◌, refl}
use mathlib.Core.Bool.{Bool, true, false, false≢true, cond, and-eq-true_iff, ◌&&◌}
use native.Mathlib.Omega.{arith}
use Rattle.numbers.specs.Rounding.{nearest}
use Rattle.esrgb.specs.Depths.{scale}
use Rattle.transfer.specs.Light.{low_level, reaches_light, light_of_level}
use Rattle.transfer.specs.HowTabled.{levels}
use Rattle.transfer.proofs.Light.{is_light, light_is}

-- From q on, one more while the level reaches it, k times at most. A number is matched wherever it must be computed once and not at each use.
abbrev climbed : ℕ → ℕ → ℕ → ℕ
climbed v zero q = q
climbed v (suc k) zero = zero
climbed v (suc k) (suc q) = cond (reaches_light (scale 12) v (suc (suc q))) (climbed v k (suc (suc q))) (suc q)

-- The light of level v, if x and y are those of the two levels before it: it grows by what the last one grew, by one less, or by up to two more.
abbrev next : ℕ → ℕ → ℕ → ℕ
next v x y = cond (low_level (scale 12) v) (nearest (10 ^ 8 * v) (1292 * scale 12)) (climbed v 3 (2 * y - x - 1))

-- Of n levels from v on, whose light is x: the next number y is the light of the next level, and the two pass the test.
abbrev pass_from : (ℕ → ℕ → ℕ → Bool) → ℕ → ℕ → ℕ → ℕ → Bool
pass_from f zero v x y = true
pass_from f (suc n) v x zero = false
pass_from f (suc n) v x (suc y) =
    is_light (scale 12) (suc v) (suc y) && (f v x (suc y) && pass_from f n (suc v) (suc y) (next (suc (suc v)) x (suc y)))

-- The test of the lights of level v and of the next.
abbrev pub Neighbours : (ℕ → ℕ → ℕ → Bool) → ℕ → Type 0
Neighbours f v = f v (light_of_level (scale 12) v) (light_of_level (scale 12) (suc v)) ≡ true

module _ (f : ℕ → ℕ → ℕ → Bool) where
  -- What passing tells of the first level.
  passed : (n v x y : ℕ) → light_of_level (scale 12) v ≡ x → pass_from f (suc n) v x (suc y) ≡ true
      → Neighbours f v × (light_of_level (scale 12) (suc v) ≡ suc y) × (pass_from f n (suc v) (suc y) (next (suc (suc v)) x (suc y)) ≡ true)
  passed n v x y e t =
      let rest = pass_from f n (suc v) (suc y) (next (suc (suc v)) x (suc y)) in
      let light = (and-eq-true_iff (is_light (scale 12) (suc v) (suc y)) (f v x (suc y) && rest)).0 t in
      let tests = (and-eq-true_iff (f v x (suc y)) rest).0 light.1 in
      let after = light_is (scale 12) (suc v) (suc y) light.0 in
      (rw (e, after) tests.0, after, tests.1)

  pass_at : (n v x y : ℕ) → light_of_level (scale 12) v ≡ x → pass_from f n v x y ≡ true → (k : ℕ) → k < n → Neighbours f (v + k)
  pass_at zero v x y e t k h = absurd (omega arith)
  pass_at (suc n) v x zero e t k h = absurd (false≢true t)
  pass_at (suc n) v x (suc y) e t zero h =
      let same : v + zero ≡ v = omega arith in
      rw same (passed n v x y e t).0
  pass_at (suc n) v x (suc y) e t (suc k) h =
      let same : v + suc k ≡ suc v + k = omega arith in
      let p = passed n v x y e t in
      rw same (pass_at n (suc v) (suc y) _ p.1 p.2 k (omega arith))

  -- The first two lights are 0 and 38.
  pub neighbours : pass_from f (levels 12) 0 0 38 ≡ true → (v : ℕ) → v < levels 12 → Neighbours f v
  unfolding nearest is_light
  neighbours t v h =
      let same : 0 + v ≡ v = omega arith in
      rw same at (pass_at (levels 12) 0 0 38 (light_is (scale 12) 0 0 refl) t v h)
