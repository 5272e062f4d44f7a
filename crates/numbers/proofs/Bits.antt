-- Numbers gathered by their bits: when nothing was gathered, and what the low bits of the gathered tell of each number.
-- Assumes nothing.
use Prim.Native.Nat.{ℕ, zero, suc, ◌-◌, ◌*◌, ◌/◌, ◌%◌, ◌^◌, ◌+◌, ◌≤◌, ◌<◌}
use mathlib.Core.Path.{◌≡◌, refl, sym, ap, ◌∙◌}
use mathlib.Core.Bool.{Bool, true, false, not, ◌&&◌}
use native.Mathlib.Omega.{arith}
use native.Mathlib.Nat.{mul_assoc, mul-add-mod_self_left, mod-eq_of_lt, mod-one, mod-lt, div-add-mod, one-le-pow, pow-succ'}
use borrow.Author.Tests.{eq-eqb, ne_eqb, ltb-true, ltb-false}
use lib.Bits.{bit_or, or_zero_l, or_add_and, and_le_r, or_step}
use lib.Dec.{ltb, eqb, eqb-suc-zero}

-- Nothing is gathered of two numbers if both are 0, and only then.
pub or_zero : (a b : ℕ) → eqb (bit_or a b) 0 ≡ (eqb a 0 && eqb b 0)
or_zero zero b = ap (λ w. eqb w 0) (or_zero_l b)
or_zero (suc a) b =
    ne_eqb (bit_or (suc a) b) 0 (λ e. omega (arith, or_add_and (suc a) b, and_le_r (suc a) b, e))
    ∙ sym (ap (λ w. w && eqb b 0) (eqb-suc-zero a))

-- No excess is a comparison.
pub excess_zero : (x limit : ℕ) → eqb (x - limit) 0 ≡ not (ltb limit x)
excess_zero x limit = tested (ltb limit x) refl
  where
    tested : (t : Bool) → ltb limit x ≡ t → eqb (x - limit) 0 ≡ not (ltb limit x)
    tested true h = ne_eqb (x - limit) 0 (λ e. omega (arith, ltb-true limit x h)) ∙ sym (ap not h)
    tested false h = eq-eqb (x - limit) 0 (omega (arith, ltb-false limit x h)) ∙ sym (ap not h)

-- ---- the low bits of a number are at most those of what is gathered with it
low_bits_by_half : (m x : ℕ) → 0 < m → x % (2 * m) ≡ 2 * (x / 2 % m) + x % 2
low_bits_by_half m x some =
    let split : 2 * m * (x / 2 / m) + (2 * (x / 2 % m) + x % 2) ≡ x = omega (arith, div-add-mod (x / 2) m, mul_assoc 2 m (x / 2 / m)) in
    let low : x / 2 % m < m = mod-lt (x / 2) some in
    sym (ap (λ y. y % (2 * m)) split) ∙ mul-add-mod_self_left (2 * m) (x / 2 / m) (2 * (x / 2 % m) + x % 2) ∙ mod-eq_of_lt (omega arith)

pub low_bits : (k a b : ℕ) → a % 2 ^ k ≤ bit_or a b % 2 ^ k
low_bits zero a b = omega (arith, mod-one a)
low_bits (suc k) a b =
    let double : 2 ^ suc k ≡ 2 * 2 ^ k = pow-succ' 2 k in
    let some : 0 < 2 ^ k = one-le-pow k 2 (omega arith) in
    let both = bit_or a b in
    let half : both / 2 ≡ bit_or (a / 2) (b / 2) = omega (arith, or_step a b) in
    rw (double, low_bits_by_half (2 ^ k) a some, low_bits_by_half (2 ^ k) both some, half) (omega (arith, low_bits k (a / 2) (b / 2), or_step a b))
