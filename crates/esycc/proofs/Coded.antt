-- A code counted in units is the definition's, over any ratio of the weight to the denominator.
-- Assumes nothing.
use mathlib.Core.Path.{◌≡◌, sym, ap, subst, ◌∙◌}
use Prim.Native.Nat.{ℕ, ◌+◌, ◌-◌, ◌*◌, ◌/◌, ◌≤◌, ◌<◌, min}
use native.Mathlib.Omega.{arith}
use native.Mathlib.Nat.{mul_assoc, mul_left_comm, mul-add}
use Rattle.numbers.specs.Rounding.{nearest, clipped_to}
use Rattle.numbers.proofs.Shares.{Share, share-of, Counted, clipped-sum, clipped-times}
use Rattle.esycc.specs.Esycc.{code}
use Rattle.esycc.specs.HowCounted.{Ratio}

-- The same ratio, to an even number of times b.
pub ratio-times : {a b p q : ℕ} (half : ℕ) → Ratio a b p q → Ratio a (2 * half * b) p (2 * (half * q))
ratio-times {a} {b} {p} {q} half r = record {
  times = r.times;
  some = r.some;
  first-is = r.first-is;
  second_is = ap (λ (x : ℕ). 2 * half * x) r.second_is ∙ mul_left_comm (2 * half) r.times q ∙ ap (λ (x : ℕ). r.times * x) (mul_assoc 2 half q);
}

pub share_times : (half p q unit : ℕ) → 1 ≤ half * q → Share (2 * (half * q)) p unit (p * unit / (2 * half * q))
share_times half p q unit some =
    let e : 2 * half * q ≡ 2 * (half * q) = mul_assoc 2 half q in
    subst (λ (d : ℕ). Share d p unit (p * unit / (2 * half * q))) e (share-of (2 * half * q) p unit (omega arith))

module _ {a b p q : ℕ} (r : Ratio a b p q) (most origin up down : ℕ) where
  code_by : code most origin a up down b ≡ clipped_to most (p * up + origin * q) (p * down) q
  unfolding code
  code_by =
      let t : ℕ = r.times in
      let part : (x : ℕ) → a * x ≡ t * (p * x) = λ x. ap (λ (y : ℕ). y * x) r.first-is ∙ mul_assoc t p x in
      let origins : origin * b ≡ t * (origin * q) = ap (λ (y : ℕ). origin * y) r.second_is ∙ mul_left_comm origin t q in
      let ups : a * up + origin * b ≡ t * (p * up + origin * q) = omega (arith, part up, origins, mul-add t (p * up) (origin * q)) in
      (λ i. clipped_to most (ups i) (part down i) (r.second_is i)) ∙ clipped-times t most (p * up + origin * q) (p * down) q r.some

-- What counts up on both sides changes nothing.
pub code_less : (most origin a up down b both : ℕ) → code most origin a (up + both) (down + both) b ≡ code most origin a up down b
unfolding code clipped_to
code_less most origin a up down b both =
    let e : a * (up + both) + origin * b - a * (down + both) ≡ a * up + origin * b - a * down = omega (arith, mul-add a up both, mul-add a down both) in
    ap (λ (x : ℕ). min most (nearest x b)) e

-- The sum of what counts up and down, in units of 2g, is the code.
module _ {a b p h : ℕ} (r : Ratio a b p (2 * h)) (g low origin allowance most up down : ℕ) {more less s e : ℕ} where
  pub coded :
      Counted (2 * h) (2 * g) (p * up) more s → Counted (2 * h) (2 * g) (p * down) less e
      → 0 < h → s ≤ allowance → 2 * h * (allowance + e) < 2 * g → p * down ≤ 2 * h * (low + origin)
      → min most (((low + origin) * (2 * g) + g + allowance + more - less) / (2 * g) - low) ≡ code most origin a up down b
  coded m l some few short fits = clipped-sum h g low origin allowance m l most some few short fits ∙ sym (code_by r most origin up down)
