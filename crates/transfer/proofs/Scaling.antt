-- Rule 6.6: the light of a level depends on its proportion to the scale alone, so every code is a 16-bit code of the same light.
-- Assumes nothing.
use Prim.Native.Nat.{ℕ, zero, suc, ◌+◌, ◌-◌, ◌*◌, ◌^◌, ◌/◌, ◌≤◌, ◌<◌}
use mathlib.Core.Path.{◌≡◌, refl, sym, ap, ◌∙◌}
use native.Mathlib.Omega.{arith}
use native.Mathlib.Nat.{pow-zero, pow-suc, mul-add, mul-sub, mul_left_comm, mul-mul-mul_comm, mul-div-mul_left, mul-le-mul_left, le_of_mul-le-mul_left, lt_of_mul-lt-mul_left, mul-lt-mul_of_pos_left, mul-pos, one-mul, lt_of_not-le}
use native.Mathlib.Decide.{dec_le}
use borrow.Author.Tests.{le-leb, lt-leb}
use lib.Dec.{leb, ltb}
use mathlib.Core.List.{List, map}
use lib.IntN.{ℤ}
use Rattle.numbers.specs.Rounding.{nearest}
use Rattle.esrgb.specs.declared.Depth.{Depth}
use Rattle.esrgb.specs.declared.Depth.TheVariants.{Ten, Twelve, Sixteen}
use Rattle.esrgb.specs.Depths.{bits, greatest, offset, step, scale}
use Rattle.esrgb.proofs.Scale.{Scale}
use Rattle.transfer.specs.Light.{low_level, reaches_light, light_of_level, per_level, light_between, light_at, signed, light_of_code}
use Rattle.transfer.proofs.Between.{on_level}

pub pow_mul : (x y n : ℕ) → (x * y) ^ n ≡ x ^ n * y ^ n
pow_mul x y zero = rw (pow-zero (x * y), pow-zero x, pow-zero y)
pow_mul x y (suc n) = rw (pow-suc (x * y) n, pow-suc x n, pow-suc y n, pow_mul x y n) (mul-mul-mul_comm (x ^ n) (y ^ n) x y)

-- Two tests with the same outcome; so a test of multiples is that of the numbers.
leb_same : (a b c d : ℕ) → (a ≤ b → c ≤ d) → (c ≤ d → a ≤ b) → leb a b ≡ leb c d
leb_same a b c d f g =
    elim (dec_le a b) [
      | yes h ↦ le-leb a b h ∙ sym (le-leb c d (f h))
      | no h ↦ lt-leb a b (lt_of_not-le h) ∙ sym (lt-leb c d (lt_of_not-le (λ l. h (g l))))
    ]

module _ (m : ℕ) (some : zero < m) where
  leb_times : (a b : ℕ) → leb (m * a) (m * b) ≡ leb a b
  leb_times a b = leb_same (m * a) (m * b) a b (λ h. le_of_mul-le-mul_left h some) (λ h. mul-le-mul_left m h)

  ltb_times : (a b : ℕ) → ltb (m * a) (m * b) ≡ ltb a b
  ltb_times a b = leb_same (suc (m * a)) (m * b) (suc a) b (λ h. lt_of_mul-lt-mul_left m h) (λ h. mul-lt-mul_of_pos_left h some)

module _ (m : ℕ) (some : zero < m) where
  factor_out : (a x y : ℕ) → y ≡ m * x → a * y ^ 12 ≡ m ^ 12 * (a * x ^ 12)
  factor_out a x y e = rw (e, pow_mul m x 12) (mul_left_comm a (m ^ 12) (x ^ 12))

  pub pow_some : (k : ℕ) → zero < m ^ k
  pow_some zero = rw (pow-zero m) (omega arith)
  pow_some (suc k) = rw (pow-suc m k) (mul-pos (pow_some k) some)

  line_scaled : (S v : ℕ) → low_level (m * S) (m * v) ≡ low_level S v
  line_scaled S v = rw (mul_left_comm 100000 m v, mul_left_comm 4045 m S) (leb_times m some (100000 * v) (4045 * S))

  nearest_scaled : (a b : ℕ) → nearest (m * a) (m * b) ≡ nearest a b
  unfolding nearest
  nearest_scaled a b =
      rw (mul_left_comm 2 m a, mul_left_comm 2 m b, ← mul-add m (2 * a) b) (mul-div-mul_left (2 * a + b) (2 * b) some)

  reaches_scaled : (S v q : ℕ) → reaches_light (m * S) (m * v) q ≡ reaches_light S v q
  unfolding reaches_light
  reaches_scaled S v q =
      let num : 200 * (m * v) + 11 * (m * S) ≡ m * (200 * v + 11 * S) =
      rw (mul_left_comm 200 m v, mul_left_comm 11 m S) (sym (mul-add m (200 * v) (11 * S))) in
      rw (
        factor_out ((2 * q - 1) ^ 5) (211 * S) (211 * (m * S)) (mul_left_comm 211 m S),
        factor_out ((2 * 10 ^ 6) ^ 5) (200 * v + 11 * S) (200 * (m * v) + 11 * (m * S)) num,
      )
      (leb_times (m ^ 12) (pow_some 12) ((2 * q - 1) ^ 5 * (211 * S) ^ 12) ((2 * 10 ^ 6) ^ 5 * (200 * v + 11 * S) ^ 12))

  -- the tests are equal, and so are the searches
  pub light_scaled : (S v : ℕ) → light_of_level (m * S) (m * v) ≡ light_of_level S v
  unfolding light_of_level
  light_scaled S v =
      let test : reaches_light (m * S) (m * v) ≡ reaches_light S v = λ i q. reaches_scaled S v q i in
      rw (line_scaled S v, test, mul_left_comm (10 ^ 8) m v, mul_left_comm 1292 m S, nearest_scaled (10 ^ 8 * v) (1292 * S))

-- The light of a code, by any rule of levels and any offset.
abbrev pub light_from : (ℕ → ℕ) → ℕ → ℕ → ℤ
light_from light o code = signed (ltb code o) (light ((code - o) + (o - code)))

from_scaled :
    (m : ℕ) → zero < m → (wide narrow : ℕ → ℕ) → ((v : ℕ) → wide (m * v) ≡ narrow v)
    → (o code : ℕ) → light_from wide (m * o) (m * code) ≡ light_from narrow o code
from_scaled m some wide narrow same o code =
    rw (ltb_times m some code o, ← mul-sub m o code, ← mul-sub m code o, ← mul-add m (code - o) (o - code), same ((code - o) + (o - code)))

-- ---- from every depth to 16 bits: m steps of depth n make one of 16 bits
pub record Up (n m : ℕ) : Type 0 where
  pub some : zero < m
  pub makes : m * step n ≡ step 16
  pub same : (v : ℕ) → light_at 16 (m * v) ≡ light_at n v

-- From 10 bits to 16 by way of 12: 4 times as many levels, and then 16 times.
up_ten : (v : ℕ) → light_between (64 * v) ≡ light_of_level (scale 10) v
up_ten v =
    let e : 64 * v ≡ per_level * (4 * v) = omega arith in
    rw e (on_level (4 * v) ∙ light_scaled 4 (omega arith) (scale 10) v)

pub up : (d : Depth) → Up (bits d) (step 16 / step (bits d))
up Ten = record { some = omega arith; makes = refl; same = up_ten }
up Twelve = record { some = omega arith; makes = refl; same = on_level }
up Sixteen = record { some = omega arith; makes = refl; same = λ v. ap light_between (one-mul v) }

-- A code at depth n times m is a 16-bit code of the same light.
pub same_light : (n m code : ℕ) → Scale n → Up n m → light_of_code 16 (m * code) ≡ light_of_code n code
unfolding light_of_code
same_light n m code s u =
    let o : m * offset n ≡ offset 16 = ap (λ (x : ℕ). m * x) s.zero_at ∙ mul_left_comm m 192 (step n) ∙ ap (λ (x : ℕ). 192 * x) u.makes in
    ap (λ (x : ℕ). light_from (light_at 16) x (m * code)) (sym o)
    ∙ from_scaled m u.some (light_at 16) (light_at n) u.same (offset n) code

module _ (n m : ℕ) (s : Scale n) (u : Up n m) where
  pub up_fits : (x : ℕ) → x ≤ greatest n → m * x < 2 ^ 16
  up_fits x h =
      let under : x < 512 * step n = omega arith in
      omega (arith, mul-lt-mul_of_pos_left under u.some, mul_left_comm m 512 (step n), u.makes)

  pub up_lights : (xs : List ℕ) → map (λ (x : ℕ). light_of_code 16 (m * x)) xs ≡ map (light_of_code n) xs
  up_lights xs = λ i. map (λ (x : ℕ). same_light n m x s u i) xs
