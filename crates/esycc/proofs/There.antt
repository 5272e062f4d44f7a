-- From e-sRGB: the sums of luma and of the chromas are the definitions' codes, at any depth.
-- Assumes nothing.
use mathlib.Core.Path.{◌≡◌, sym, ap, ◌∙◌}
use Prim.Native.Nat.{ℕ, ◌+◌, ◌-◌, ◌*◌, ◌/◌, ◌^◌, ◌≤◌, ◌<◌, min}
use native.Mathlib.Omega.{arith}
use native.Mathlib.Nat.{mul-add, mul-sub, mul_assoc, mul_comm, mul-le-mul, mul-le-mul_left, mul-le-mul_right, le_of_mul-le-mul_left}
use Rattle.numbers.proofs.Shares.{Share, counted}
use Rattle.esycc.specs.Esycc.{code}
use Rattle.esycc.specs.HowCounted.{Ratio, unit, lift, most_sum, most_difference, most_low, most_divisor, most_bottom, Terms, start, luma_sum, chroma_sum}
use Rattle.esycc.proofs.Room.{product_fits}
use Rattle.esycc.proofs.Coded.{ratio-times, code_less, coded}

-- As far as x reaches by the ratio, so far it reaches by the factor.
pub reaches : {den p factor : ℕ} (x far : ℕ) → Share den p unit factor → 0 < den → p * x ≤ den * far → factor * x ≤ far * unit
reaches {den} {p} {factor} x far s some h =
    let a : den * factor * x ≤ p * unit * x = mul-le-mul_right x s.low in
    let b : p * x * unit ≤ den * far * unit = mul-le-mul_right unit h in
    let c : p * unit * x ≡ p * x * unit = mul_assoc p unit x ∙ ap (λ (y : ℕ). p * y) (mul_comm unit x) ∙ sym (mul_assoc p x unit) in
    le_of_mul-le-mul_left {k = den} (omega (arith, a, b, c, mul_assoc den factor x, mul_assoc den far unit)) some

-- How many codes luma reaches, and a chroma on either side of grey.
abbrev pub luma_reach : ℕ
luma_reach = 131600

abbrev pub chroma_reach : ℕ
chroma_reach = 42000

-- ---- luma
module _ {most b p q factor : ℕ} (t : Terms p q) (r : Ratio most b p q) (s : Share (2 * (500 * q)) p unit factor) where
  pub luma_coded :
      (low sum : ℕ) → low ≤ most_low → sum ≤ most_sum
      → min most (luma_sum factor low sum - lift) ≡ code most 0 most sum low (1000 * b)
  unfolding luma_sum
  luma_coded low sum hl hs =
      let lows : p * low ≤ p * most_low = mul-le-mul_left p hl in
      let under : factor * low ≤ lift * unit = reaches low lift s (omega (arith, t.some)) (omega (arith, t.ratio)) in
      let order : start 0 most_sum - factor * low + factor * sum ≡ start 0 most_sum + factor * sum - factor * low = omega arith in
      let few : 2 * (500 * q) * (most_sum + low) ≤ 1000 * most_bottom * (most_sum + most_low) =
      product_fits (2 * (500 * q)) (most_sum + low) (1000 * most_bottom) (most_sum + most_low) (omega (arith, t.few)) (omega arith) in
      ap (λ (x : ℕ). min most (x / unit - lift)) order
      ∙ coded (ratio-times 500 r) (2 ^ 45) lift 0 most_sum most sum low (counted s sum) (counted s low) (omega (arith, t.some)) hs (omega arith) (omega (arith, t.ratio))

-- ---- a chroma: up and down are what the channel and the weighted sum do not have in common
module _ {most b p q factor : ℕ} (half : ℕ) (t : Terms p q) (r : Ratio most b p q) (s : Share (2 * (half * q)) p unit factor) where
  pub chroma_coded :
      (origin channel sum up down both : ℕ) → 1 ≤ half → half ≤ 1772 → p * most_difference ≤ 2 * (half * q) * chroma_reach
      → 1000 * channel ≡ up + both → sum ≡ down + both → up ≤ most_difference → down ≤ most_difference
      → min most (chroma_sum factor origin channel sum - lift) ≡ code most origin most (1000 * channel) sum (2 * half * b)
  unfolding chroma_sum
  chroma_coded origin channel sum up down both some few far hc hs hu hd =
      let den : 1 * 1 ≤ half * q = mul-le-mul some t.some in
      let wide : half * q ≤ 1772 * most_bottom = mul-le-mul few t.few in
      let x : ℕ = up + most_difference - down in
      let above : 1000 * channel + most_difference - sum ≡ x = omega arith in
      let times : factor * x ≡ factor * up + factor * most_difference - factor * down =
      mul-sub factor (up + most_difference) down ∙ ap (λ (y : ℕ). y - factor * down) (mul-add factor up most_difference) in
      let downs : factor * down ≤ factor * most_difference = mul-le-mul_left factor hd in
      let under : factor * most_difference ≤ chroma_reach * unit = reaches most_difference chroma_reach s (omega arith) far in
      let first : ℕ = start origin most_difference in
      let more : lift ≤ lift + origin = omega arith in
      let origins : lift * unit ≤ (lift + origin) * unit = mul-le-mul_right unit more in
      let order : first - factor * most_difference + factor * x ≡ first + factor * up - factor * down = omega arith in
      let short : 2 * (half * q) * (most_difference + down) ≤ most_divisor * most_bottom * (2 * most_difference) =
      product_fits (2 * (half * q)) (most_difference + down) (most_divisor * most_bottom) (2 * most_difference) (omega arith) (omega arith) in
      let p-down : p * down ≤ p * most_difference = mul-le-mul_left p hd in
      let higher : chroma_reach ≤ lift + origin = omega arith in
      let lifts : 2 * (half * q) * chroma_reach ≤ 2 * (half * q) * (lift + origin) = mul-le-mul_left (2 * (half * q)) higher in
      ap (λ (y : ℕ). min most ((first - factor * most_difference + factor * y) / unit - lift)) above
      ∙ ap (λ (y : ℕ). min most (y / unit - lift)) order
      ∙ coded (ratio-times half r) (2 ^ 45) lift origin most_difference most up down (counted s up) (counted s down) (omega arith) hu (omega arith) (omega arith)
      ∙ sym (code_less most origin most up down (2 * half * b) both)
      ∙ (λ i. code most origin most (sym hc i) (sym hs i) (2 * half * b))
