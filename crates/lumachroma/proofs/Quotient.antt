-- An estimate and what it leaves make the quotient; and the biased quotient of a chroma is the definition's, ties towards zero. Both are
-- shown over any denominator. Assumes nothing.
use mathlib.Core.Path.{◌≡◌, ap, sym, ◌∙◌}
use mathlib.Core.Logic.{⊎_elim}
use Prim.Native.Nat.{ℕ, ◌+◌, ◌-◌, ◌*◌, ◌/◌, ◌%◌, ◌≤◌, ◌<◌}
use native.Mathlib.Omega.{arith}
use native.Mathlib.Nat.{eq-zero-or-pos, add-mul, mul_comm, mul-sub, mul-le-mul_left, mul-add-div, mod-lt, div-add-mod, div-div-eq-div-mul, div-eq_of_lt, div-eq_of_lt-le, div-lt_iff_lt-mul}
use Rattle.numbers.specs.Rounding.{nearest_down, clipped_to}
use Rattle.samples.specs.declared.Pixel.{Pixel}
use Rattle.esrgb.specs.declared.Depth.{Depth}
use Rattle.esrgb.specs.Depths.{bits, greatest, middle}
use Rattle.esrgb.proofs.Scale.{scale}
use Rattle.lumachroma.specs.LumaChroma.{chroma, blue_chroma, red_chroma}
use Rattle.lumachroma.specs.HowDivided.{span, bias, estimate_bias, cb_of_red, cb_of_green, cr_of_green, cr_of_blue, weighted, InRange, biased_dividend, Estimates, rest_of, Biased}

-- An estimate, and what it leaves of the dividend over den, make the quotient. Of the dividend only the last 16 bits are handed on.
pub divided :
    (whole den estimate dividend : ℕ) {left : ℕ} → left ≡ rest_of dividend den estimate → dividend % span ≡ whole % span → 0 < den
    → estimate ≤ span → den * estimate ≤ whole → whole < den * estimate + span → estimate + left / den ≡ whole / den
unfolding rest_of
divided whole den estimate dividend {left} is-left same some fits low near =
    let x : ℕ = whole - den * estimate in
    let most : den * estimate ≤ den * span = mul-le-mul_left den fits in
    let left_is : left ≡ x = omega arith in
    let whole_is : whole ≡ den * estimate + x = omega arith in
    ap (λ y. estimate + y / den) left_is ∙ sym (mul-add-div some estimate x) ∙ ap (λ y. y / den) (sym whole_is)

-- The shares estimate the quotients of the chromas.
module _ (p : Pixel) {e : ℕ} (hr : p.first ≤ 65535) (hg : p.second ≤ 65535) (hb : p.third ≤ 65535) (s t : ℕ) where
  pub blue_estimated :
      s ≡ p.first * cb_of_red / span → t ≡ p.second * cb_of_green / span → e ≡ estimate_bias + p.third / 2 - (s + t)
      → Estimates (biased_dividend (1000 * p.third) (weighted p) 1772) 1772 e
  blue_estimated hs ht he = record { low = omega arith; near = omega arith }

  pub red_estimated :
      s ≡ p.second * cr_of_green / span → t ≡ p.third * cr_of_blue / span → e ≡ estimate_bias + p.first / 2 - (s + t)
      → Estimates (biased_dividend (1000 * p.first) (weighted p) 1402) 1402 e
  red_estimated hs ht he = record { low = omega arith; near = omega arith }

module _ {up down den : ℕ} (s : InRange up down den) where
  -- Half of den less one is added: so a tie goes down.
  down_by_half : (x : ℕ) → nearest_down x den ≡ (x + (den / 2 - 1)) / den
  unfolding nearest_down
  down_by_half x =
      let e : (2 * x + den - 1) / 2 ≡ x + (den / 2 - 1) = omega arith in
      sym (div-div-eq-div-mul (2 * x + den - 1) 2 den) ∙ ap (λ y. y / den) e

  small : (x : ℕ) → x ≤ 65535 * (den / 2) → (x + (den / 2 - 1)) / den < bias
  small x h = (div-lt_iff_lt-mul {k = den} (omega arith)).1 (omega arith)

  none : (x : ℕ) → x + (den / 2 - 1) < den → nearest_down x den ≡ 0
  none x h = down_by_half x ∙ div-eq_of_lt h

  -- up − down is 0 or more: a tie goes down.
  pub above-luma : down ≤ up → Biased up down den ((biased_dividend up down den - 1) / den)
  above-luma h =
      let x : ℕ = up - down + (den / 2 - 1) in
      let num : biased_dividend up down den - 1 ≡ den * bias + x = omega arith in
      let q : (biased_dividend up down den - 1) / den ≡ bias + x / den = ap (λ y. y / den) num ∙ mul-add-div (omega arith) bias x in
      record {
        rounded = omega (arith, q, down_by_half (up - down), none (down - up) (omega arith));
        fits = omega (arith, q, small (up - down) (omega arith));
      }

  -- up − down is less than 0: x ÷ den, rounded, is taken from the bias.
  below : up < down → Biased up down den (biased_dividend up down den / den)
  below h =
      let x : ℕ = down - up + (den / 2 - 1) in
      let a : ℕ = x / den in
      let few : a < bias = small (down - up) (omega arith) in
      let split : den * a + x % den ≡ x = div-add-mod x den in
      let rest : x % den < den = mod-lt x (omega arith) in
      let times : (bias - a) * den ≡ den * bias - den * a = mul_comm (bias - a) den ∙ mul-sub den bias a in
      let next : (bias - a + 1) * den ≡ (bias - a) * den + den = omega (arith, add-mul (bias - a) 1 den) in
      let q : biased_dividend up down den / den ≡ bias - a = div-eq_of_lt-le den (omega arith) (omega arith) in
      record {
        rounded = omega (arith, q, down_by_half (down - up), none (up - down) (omega arith));
        fits = omega arith;
      }

  -- up − down is 0 or more, and no tie.
  at-luma : down ≤ up → up ≤ down + 500 → Biased up down den (biased_dividend up down den / den)
  at-luma h near =
      let x : ℕ = up - down + den / 2 in
      let num : biased_dividend up down den ≡ den * bias + x = omega arith in
      let q : biased_dividend up down den / den ≡ bias + x / den = ap (λ y. y / den) num ∙ mul-add-div (omega arith) bias x in
      let zero_is : x / den ≡ 0 = div-eq_of_lt (omega arith) in
      record {
        rounded = omega (arith, q, zero_is, none (up - down) (omega arith), none (down - up) (omega arith));
        fits = omega (arith, q, zero_is);
      }

  pub not_above_luma : up ≤ down + 500 → Biased up down den (biased_dividend up down den / den)
  not_above_luma h = ⊎_elim (λ e. at-luma (omega arith) h) (λ l. below (omega arith)) (eq-zero-or-pos (down - up))

-- A biased quotient is the definition's chroma once the middle code is in the bias's place.
pub stored-chroma : (d : Depth) (up down den q : ℕ) → Biased up down den q → q - (bias - middle (bits d)) ≡ chroma (bits d) up down den
unfolding chroma
stored-chroma d up down den q b =
    let s = scale d in
    omega (arith, b.rounded)

-- A weight on both sides of a difference changes nothing.
same-chroma :
    (n den up down up' down' : ℕ) → up - down ≡ up' - down' → down - up ≡ down' - up' → chroma n up down den ≡ chroma n up' down' den
unfolding chroma
same-chroma n den up down up' down' e f = λ i. middle n + nearest_down (e i) den - nearest_down (f i) den

pub is-chroma :
    (d : Depth) (up down den q up' down' : ℕ) → Biased up down den q → up - down ≡ up' - down' → down - up ≡ down' - up'
    → q - (bias - middle (bits d)) ≡ chroma (bits d) up' down' den
is-chroma d up down den q up' down' b e f = stored-chroma d up down den q b ∙ same-chroma (bits d) den up down up' down' e f

module _ (n : ℕ) (p : Pixel) where
  pub is-blue_chroma : chroma n (1000 * p.third) (weighted p) 1772 ≡ blue_chroma n p.first p.second p.third
  unfolding blue_chroma
  is-blue_chroma = same-chroma n 1772 _ _ _ _ (omega arith) (omega arith)

  pub is-red_chroma : chroma n (1000 * p.first) (weighted p) 1402 ≡ red_chroma n p.first p.second p.third
  unfolding red_chroma
  is-red_chroma = same-chroma n 1402 _ _ _ _ (omega arith) (omega arith)

-- Clipping by the middle code is clipping by the depth.
pub clipped-at : (d : Depth) (up down den : ℕ) → clipped_to (2 * middle (bits d) - 1) up down den ≡ clipped_to (greatest (bits d)) up down den
clipped-at d up down den =
    let s = scale d in
    let e : 2 * middle (bits d) - 1 ≡ greatest (bits d) = omega arith in
    ap (λ (g : ℕ). clipped_to g up down den) e
