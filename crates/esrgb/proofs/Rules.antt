-- Each rule computes its definition, at every depth: shown once, over the step, or over half of what is divided by.
-- Assumes nothing.
use Prim.Native.Nat.{ℕ, suc, ◌+◌, ◌-◌, ◌*◌, ◌/◌, ◌%◌, ◌^◌, ◌≤◌, ◌<◌, min}
use mathlib.Core.Path.{◌≡◌, refl, sym, ap, ◌∙◌}
use native.Mathlib.Nat.{mod-mod, mod-eq_of_lt, div-eq_of_lt, div-eq_of_lt-le, le-div_iff_mul-le, div-lt_iff_lt-mul, mul-add-div_right, mul-div_left, mul_assoc, add-mul, add-zero, one-mul, mul_comm, mul-le-mul, le-pred_of_lt, pow-succ', one-le-pow}
use native.Mathlib.Omega.{arith}
use native.Mathlib.Decide.{dec_le}
use lib.Pow.{pow-lt, pow_mono, pow-add, le_ones, high_ones}
use borrow.Author.Tests.{le-leb, lt-leb}
use Rattle.numbers.specs.Rounding.{nearest}
use Rattle.numbers.proofs.Shares.{nearest-even}
use Rattle.esrgb.specs.declared.DepthChange.TheVariants.{Up, Down}
use Rattle.esrgb.specs.Depths.{greatest, step}
use Rattle.esrgb.specs.Codes.{from_srgb, to_srgb, srgb_value, change_depth}
use Rattle.esrgb.specs.HowApplied.{affine, to_eight, round, changed, Computes, line_of, cut_of, rounding_of, change_of}
use Rattle.esrgb.proofs.Scale.{Scale}

-- (a + h) ÷ 2h, where a is what x is above 384h, needs no look at which is greater: below 383h both sides are 0
low_part : (h x : ℕ) → 1 ≤ h → (x - (192 * (2 * h) - h)) / (2 * h) ≡ nearest (x - 192 * (2 * h)) (2 * h)
low_part h x p =
    elim (dec_le (192 * (2 * h)) x) [
      | yes a ↦ ap (λ (y : ℕ). y / (2 * h)) (omega arith)
      | no b ↦
          let below : x < 192 * (2 * h) = omega arith in
          div-eq_of_lt (omega arith) ∙ sym (div-eq_of_lt (omega arith))
    ]
    ∙ sym (nearest-even h (x - 192 * (2 * h)))

-- x + h, lifted by t times 2h, is t more over 2h. Where 65,535 is the last number that is t + g over 2h, a sum that stops there is clipped
-- to g.
lifted :
    (h t g x : ℕ) → 1 ≤ h → t * (2 * h) + g * (2 * h) + 2 * h ≡ 65536
    → min 65535 (x + (t * (2 * h) + h)) / (2 * h) ≡ t + min g (nearest x (2 * h))
lifted h t g x p e =
    elim (dec_le (g * (2 * h) + h) x) [
      | yes above ↦
          let least : g ≤ (x + h) / (2 * h) = (le-div_iff_mul-le {k = 2 * h} (omega arith)).1 (omega arith) in
          let clipped : g ≡ min g (nearest x (2 * h)) = omega (arith, nearest-even h x) in
          div-eq_of_lt-le (2 * h) (omega (arith, add-mul t g (2 * h))) (omega (arith, add-mul (t + g) 1 (2 * h), add-mul t g (2 * h))) ∙ ap (λ (y : ℕ). t + y) clipped
      | no below ↦
          let most : (x + h) / (2 * h) < g + 1 = (div-lt_iff_lt-mul {k = 2 * h} (omega arith)).1 (omega (arith, add-mul g 1 (2 * h))) in
          let kept : (x + h) / (2 * h) ≡ min g (nearest x (2 * h)) = omega (arith, nearest-even h x) in
          let sum : min 65535 (x + (t * (2 * h) + h)) ≡ t * (2 * h) + (x + h) = omega arith in
          ap (λ (y : ℕ). y / (2 * h)) sum ∙ mul-add-div_right (omega arith) t (x + h) ∙ ap (λ (y : ℕ). t + y) kept
    ]

pub from_srgb_computes : (n : ℕ) → Computes (affine (line_of n)) (from_srgb n)
unfolding affine from_srgb
from_srgb_computes n x = mod-mod _ _

pub to_srgb_computes : (n : ℕ) → Scale n → Computes (to_eight (cut_of n)) (srgb_value n)
unfolding to_eight to_srgb
to_srgb_computes n s x =
    let e : step n / 2 ≡ s.half_step = omega (arith, s.even) in
    let h : 1 ≤ s.half_step = omega (arith, s.even, s.some) in
    let shift : (n - 9) % 16 ≡ n - 9 = mod-eq_of_lt (omega (arith, s.least, s.most)) in
    rw (shift, e, s.zero_at, s.even) (ap (λ (y : ℕ). min 255 y % 65536) (low_part s.half_step x h))

-- depth up, and equal depths
up_computes : (n m : ℕ) → n ≤ m → Computes (affine (record { factor = 2 ^ (m - n); offset = 0 })) (change_depth n m)
unfolding affine change_depth
up_computes n m h x = mod-mod _ _ ∙ rw (le-leb n m h, add-zero, mul_comm (2 ^ (m - n)) x) refl

-- Depth down: half of what is divided by, and how many times the whole fits between the codes and the end of 16 bits.
abbrev half_of : ℕ → ℕ → ℕ
half_of n m = 2 ^ (n - m - 1)

abbrev times_above : ℕ → ℕ → ℕ
times_above n m = (2 ^ (16 - n) - 1) * 2 ^ m

module _ (n m : ℕ) (h : m < n) (most : n ≤ 16) where
  divisor : 2 ^ (n - m) ≡ 2 * half_of n m
  divisor = let e : n - m ≡ suc (n - m - 1) = omega arith in ap (λ (j : ℕ). 2 ^ j) e ∙ pow-succ' 2 (n - m - 1)

  codes_are : 2 ^ n ≡ 2 ^ m * (2 * half_of n m)
  codes_are = let e : m + (n - m) ≡ n = omega arith in rw (e, divisor) at (pow-add 2 m (n - m))

  above-is : 65535 - greatest n ≡ times_above n m * (2 * half_of n m)
  above-is =
      let e : 16 - n + n ≡ 16 = omega arith in
      let ones : 65536 - 2 ^ n ≡ (2 ^ (16 - n) - 1) * 2 ^ n = rw e at (high_ones (16 - n) n) in
      let parts : (2 ^ (16 - n) - 1) * 2 ^ n ≡ times_above n m * (2 * half_of n m) = rw codes_are (sym (mul_assoc (2 ^ (16 - n) - 1) (2 ^ m) (2 * half_of n m))) in
      omega (arith, ones, parts, one-le-pow n 2 (omega arith))

  to_the_end : times_above n m * (2 * half_of n m) + greatest m * (2 * half_of n m) + 2 * half_of n m ≡ 65536
  to_the_end =
      let whole : greatest m + 1 ≡ 2 ^ m = omega (arith, one-le-pow m 2 (omega arith)) in
      let codes : 2 ^ n ≡ greatest m * (2 * half_of n m) + 2 * half_of n m = codes_are ∙ ap (λ (y : ℕ). y * (2 * half_of n m)) (sym whole) ∙ omega (arith, add-mul (greatest m) 1 (2 * half_of n m)) in
      omega (arith, above-is, codes, pow_mono {i = n} {j = 16} most)

  down_computes : n - m < 16 → Computes (round (rounding_of n m)) (change_depth n m)
  unfolding round change_depth
  down_computes f x =
      let some : 1 ≤ half_of n m = one-le-pow (n - m - 1) 2 (omega arith) in
      let quotient = lifted (half_of n m) (times_above n m) (greatest m) x some to_the_end in
      rw (lt-leb n m h, mod-eq_of_lt f, above-is, divisor, mul-div_left (times_above n m) {n = 2 * half_of n m} (omega arith), quotient) (omega arith)

pub change_computes : (n m : ℕ) → Scale n → Scale m → Computes (changed (change_of n m)) (change_depth n m)
change_computes n m s t x =
    elim (dec_le n m) [
      | yes h ↦ rw (le-leb n m h) (up_computes n m h x)
      | no h ↦
          let down : m < n = omega arith in
          rw (lt-leb n m down) (down_computes n m down s.most (omega (arith, s.most, t.least)) x)
    ]

-- ---- what the code makes of two depths: powers are 1 shifted up, in 16 bits
one_shifted : (k : ℕ) → k < 16 → 1 * 2 ^ k % 65536 ≡ 2 ^ k
one_shifted k f = rw one-mul (mod-eq_of_lt (pow-lt {i = k} {j = 16} f))

pub up_is : (n m : ℕ) → n ≤ m → m - n < 16 → Up (record { factor = 1 * 2 ^ (m - n) % 65536; offset = 0 }) ≡ change_of n m
up_is n m h f = rw (le-leb n m h, one_shifted (m - n) f)

pub down_is :
    (n m : ℕ) → m < n → n - m - 1 < 16
    → Down (record { lift = 65535 - greatest n + 1 * 2 ^ (n - m - 1) % 65536; shift = n - m; base = (65535 - greatest n) / 2 ^ (n - m) }) ≡ change_of n m
down_is n m h f = rw (lt-leb n m h, one_shifted (n - m - 1) f)

pub half_is_code : (n m : ℕ) → m < n → n - m - 1 < 16 → 1 * 2 ^ (n - m - 1) % 65536 ≤ greatest n
half_is_code n m h f = rw (one_shifted (n - m - 1) f) (le_ones n (pow-lt {i = n - m - 1} {j = n} (omega arith)))

-- the sum of a rule fits the 32 bits that it is worked out in
pub affine_fits : (factor x offset : ℕ) → factor < 65536 → x < 65536 → offset < 65536 → factor * x + offset < 2 ^ 32
affine_fits factor x offset f g h = omega (arith, mul-le-mul (le-pred_of_lt f) (le-pred_of_lt g))
