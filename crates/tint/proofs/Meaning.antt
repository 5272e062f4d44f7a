-- What the definitions need not say: a channel that is accepted never becomes something that is not a number, and the clip of light
-- never shows in a pixel.
-- Assumes nothing.
use Prim.Native.Nat.{ℕ, zero, suc, ◌-◌, ◌*◌, ◌^◌, ◌≤◌, ◌<◌, min}
use mathlib.Core.Path.{◌≡◌, refl, sym, ap, ◌∙◌}
use mathlib.Core.Bool.{Bool, true, false}
use native.Mathlib.Nat.{le_trans}
use native.Mathlib.Omega.{arith}
use lib.Dec.{T, leb}
use lib.IntN.{pos, neg_ℤ}
use lib.Ieee.{Float, nan, inf, fin, binary64, up, down, of_int}
use lib.Ieee.Scale.{finite}
use borrow.Author.Tests.{leb-true, leb-false}
use Rattle.std.specs.Prelude.{Option, None, Some}
use Rattle.numbers.specs.Rounding.{nearest, nearest_down}
use Rattle.doubles.specs.Doubles.{nearest_whole}
use Rattle.doubles.proofs.Numbers.{IsNumber, product_number, sum_number}
use Rattle.esrgb.specs.Depths.{greatest, offset, scale}
use Rattle.transfer.specs.Level.{reaches_level, level_of_light, code_of_light}
use Rattle.transfer.specs.HowTabled.{levels}
use Rattle.transfer.proofs.Level.{is_from, meets, level_from, level_rises}
use Rattle.samples.specs.declared.Pixel.{Pixel}
use Rattle.tint.specs.declared.Tint.{Tint}
use Rattle.tint.specs.declared.Tint.TheVariants.{Code}
use Rattle.tint.specs.Tints.{times, plus, light_limit, TintSaid, gives, refuses_at, refuses, tint_pixel, tint_fault, fault_or, tint_says}

-- ---- what an accepted channel comes to

-- Rules 11.4 and 11.5, of an accepted channel: the line of `nearest_whole` for what is not a number never decides.
pub nonlinear_number : (x : Float) → T (finite x) → IsNumber (plus (times x (scale 12)) (offset 12))
unfolding of_int
nonlinear_number x t = sum_number _ (of_int binary64 (pos (offset 12))) (product_number x (of_int binary64 (pos (scale 12))) t tt) tt

pub light_number_lem : (x : Float) → T (finite x) → IsNumber (times x (10 ^ 6))
unfolding of_int
light_number_lem x t = product_number x (of_int binary64 (pos (10 ^ 6))) t tt

-- ---- from 2,000,000 on, every light has the greatest code, and the least on the other side

level_high : (q : ℕ) → light_limit ≤ q → levels 12 - 1 ≤ level_of_light (scale 12) q
unfolding is_from reaches_level meets nearest
level_high q h = le_trans (level_from (scale 12) light_limit (levels 12 - 1) refl) (level_rises (scale 12) refl light_limit q h)

greatest-from : (q : ℕ) → light_limit ≤ q → code_of_light 12 (pos q) ≡ greatest 12
unfolding code_of_light
greatest-from q h = let k : levels 12 - 1 ≤ level_of_light (scale 12) q = level_high q h in omega arith

least-from : (q : ℕ) → light_limit ≤ q → code_of_light 12 (neg_ℤ (pos q)) ≡ 0
unfolding code_of_light
least-from zero h = absurd (omega arith)
least-from (suc q) h = let k : levels 12 - 1 ≤ level_of_light (scale 12) (suc q) = level_high (suc q) h in omega arith

-- Rule 11.5: any wider clip would give the same code.
module _ (below above : ℕ) (b : light_limit ≤ below) (a : light_limit ≤ above) where
  more : (n : ℕ) (t : Bool) → leb n light_limit ≡ t → code_of_light 12 (pos (min above n)) ≡ code_of_light 12 (pos (min light_limit n))
  more n true t =
      let k : n ≤ light_limit = leb-true _ _ t in
      let same : min above n ≡ min light_limit n = omega arith in
      ap (λ (q : ℕ). code_of_light 12 (pos q)) same
  more n false t =
      let k : light_limit < n = leb-false _ _ t in
      greatest-from (min above n) (omega arith) ∙ sym (greatest-from (min light_limit n) (omega arith))

  less : (n : ℕ) (t : Bool) → leb n light_limit ≡ t → code_of_light 12 (neg_ℤ (pos (min below n))) ≡ code_of_light 12 (neg_ℤ (pos (min light_limit n)))
  less n true t =
      let k : n ≤ light_limit = leb-true _ _ t in
      let same : min below n ≡ min light_limit n = omega arith in
      ap (λ (q : ℕ). code_of_light 12 (neg_ℤ (pos q))) same
  less n false t =
      let k : light_limit < n = leb-false _ _ t in
      least-from (min below n) (omega arith) ∙ sym (least-from (min light_limit n) (omega arith))

  pub clip_unseen : (x : Float) → code_of_light 12 (nearest_whole below above x) ≡ code_of_light 12 (nearest_whole light_limit light_limit x)
  unfolding nearest_whole
  clip_unseen nan = refl
  clip_unseen (inf true) = least-from below b ∙ sym (least-from light_limit (omega arith))
  clip_unseen (inf false) = greatest-from above a ∙ sym (greatest-from light_limit (omega arith))
  clip_unseen (fin true m e) = less (nearest_down (m * up e) (down e)) (leb (nearest_down (m * up e) (down e)) light_limit) refl
  clip_unseen (fin false m e) = more (nearest (m * up e) (down e)) (leb (nearest (m * up e) (down e)) light_limit) refl

-- ---- the pixel that is given is the tint's

abbrev pixel_in : TintSaid → Pixel → Pixel
pixel_in (gives p) other = p
pixel_in (refuses_at k channel) other = other
pixel_in (refuses k) other = other

pub pixel_given : (t : Tint) (p : Pixel) → gives p ≡ tint_says t → p ≡ tint_pixel t
unfolding tint_says
pixel_given t p e = ap (λ (s : TintSaid). pixel_in s (tint_pixel t)) e ∙ by (tint_fault t)
  where
    by : (f : Option ℕ) → pixel_in (fault_or f (tint_pixel t)) (tint_pixel t) ≡ tint_pixel t
    by (Some k) = refl
    by None = refl

-- Rule 11.6: 8-bit values are never refused.
pub code_given : (red green blue : ℕ) → tint_says (Code red green blue) ≡ gives (tint_pixel (Code red green blue))
unfolding tint_says tint_fault
code_given red green blue = refl
