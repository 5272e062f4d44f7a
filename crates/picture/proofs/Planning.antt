-- Each conversion has a loop that does it: samples one by one are pixels one by one, and a rule that computes a definition writes its
-- bytes.
-- Assumes nothing.
use Prim.Native.Nat.{ℕ, ◌/◌, ◌%◌}
use mathlib.Core.Path.{◌≡◌, refl, sym, ap, ◌∙◌}
use mathlib.Core.Bool.{Bool, true, false}
use mathlib.Core.List.{List, [], ◌∷◌, map}
use native.Mathlib.Omega.{arith}
use lib.ListN.{length}
use Rattle.numbers.specs.Counting.{how_many}
use Rattle.numbers.proofs.Booleans.{and_right, and_same}
use Rattle.numbers.proofs.Counting.{count_none}
use Rattle.samples.specs.declared.Pixel.{Pixel}
use Rattle.samples.specs.declared.Coding.{Coding}
use Rattle.samples.specs.declared.Coding.TheVariants.{Bytes, Codes}
use Rattle.samples.specs.Samples.{pixel_size, samples_of, sample_bytes, bytes_of, no_pixel, pixels_of, samples_in, read, write}
use Rattle.samples.proofs.Reading.{length_two}
use Rattle.esrgb.specs.declared.Depth.{Depth}
use Rattle.esrgb.specs.Depths.{offered, bits, greatest}
use Rattle.esrgb.specs.Codes.{from_srgb, srgb_value, change_depth}
use Rattle.esrgb.specs.HowApplied.{Computes, line_of, change_of}
use Rattle.esrgb.proofs.Scale.{scale, offered-bits}
use Rattle.esrgb.proofs.Rules.{from_srgb_computes, to_srgb_computes, change_computes}
use Rattle.picture.specs.declared.Conversion.{Conversion}
use Rattle.picture.specs.declared.Conversion.TheVariants.{FromSrgb, ToSrgb, ChangeDepth}
use Rattle.picture.specs.declared.PixelRule.{PixelRule}
use Rattle.picture.specs.declared.PixelRule.TheVariants as rule
use Rattle.picture.specs.declared.Work.{Work}
use Rattle.picture.specs.declared.Work.TheVariants.{Widen, Narrow, Change, Pixels}
use Rattle.picture.specs.Forms.{coding_of}
use Rattle.picture.specs.Convert.{each, none, row, source, offers, converted}
use Rattle.picture.specs.HowConverted.{done_by, Plans}

-- ---- bytes
whole_samples : (wide : Bool) (src : List ℕ) → length src % pixel_size wide ≡ 0 → length (samples_of wide src) % 3 ≡ 0
whole_samples true src h = omega (arith, length_two src)
whole_samples false src h = h

each_sample : (f : ℕ → ℕ) (xs : List ℕ) → length xs % 3 ≡ 0 → samples_in (map (each f) (pixels_of xs)) ≡ map f xs
each_sample f [] h = refl
each_sample f (a ∷ []) h = absurd (omega arith)
each_sample f (a ∷ b ∷ []) h = absurd (omega arith)
each_sample f (a ∷ b ∷ c ∷ rest) h = ap {B = List ℕ} (λ l. f a ∷ f b ∷ f c ∷ l) (each_sample f rest (omega arith))

second-byte : (x : ℕ) → x / 256 % 256 ≡ x % 65536 / 256
second-byte x = omega arith

-- the bytes of a sample say no more than its 16 bits
same_bytes : (wide : Bool) (x y : ℕ) → x % 65536 ≡ y % 65536 → sample_bytes wide x ≡ sample_bytes wide y
same_bytes true x y h =
    let low : x % 256 ≡ y % 256 = omega arith in
    let high : x / 256 % 256 ≡ y / 256 % 256 = second-byte x ∙ ap (λ z. z / 256) h ∙ sym (second-byte y) in
    cc
same_bytes false x y h = let low : x % 256 ≡ y % 256 = omega arith in cc

same_samples : (wide : Bool) (rule f : ℕ → ℕ) (xs : List ℕ) → Computes rule f → bytes_of wide (map rule xs) ≡ bytes_of wide (map f xs)
same_samples wide rule f [] h = refl
same_samples wide rule f (x ∷ xs) h = rw (same_bytes wide (rule x) (f x) (h x), same_samples wide rule f xs h)

by_pixels :
    (from to : Bool) (f : ℕ → ℕ) (src : List ℕ) → length src % pixel_size from ≡ 0
    → bytes_of to (map f (samples_of from src)) ≡ write to (map (each f) (read from src))
by_pixels from to f src h = ap (bytes_of to) (sym (each_sample f (samples_of from src) (whole_samples from src h)))

-- ---- clipped pixels: all conversions but one count none
none-clipped : (ps : List Pixel) → how_many none ps ≡ 0
none-clipped ps = count_none none ps no_pixel (λ j h. refl)

-- ---- the conversions, at depths that are offered
module _ (d : Depth) where
  pub plan_from_srgb : Plans (FromSrgb (bits d)) Bytes (Widen (line_of (bits d)))
  unfolding converted
  plan_from_srgb = record {
    offered = offered-bits d;
    coding-is = refl;
    reads = refl;
    writes = refl;
    makes = λ src whole. same_samples true _ (from_srgb (bits d)) src (from_srgb_computes (bits d)) ∙ by_pixels false true (from_srgb (bits d)) src whole;
    counts = λ src. sym (none-clipped (read false src));
  }

  pub plan_to_srgb : Plans (ToSrgb (bits d)) (Codes (greatest (bits d)) false) (Narrow d)
  unfolding converted
  plan_to_srgb = record {
    offered = rw (offered-bits d);
    coding-is = refl;
    reads = refl;
    writes = refl;
    makes = λ src whole. same_samples false _ (srgb_value (bits d)) (samples_of true src) (to_srgb_computes (bits d) (scale d)) ∙ by_pixels true false (srgb_value (bits d)) src whole;
    counts = λ src. refl;
  }

  pub plan_change : (to : Depth) → Plans (ChangeDepth (bits d) (bits to)) (Codes (greatest (bits d)) false) (Change (change_of (bits d) (bits to)))
  unfolding converted
  plan_change to = record {
    offered = rw (offered-bits d, offered-bits to);
    coding-is = refl;
    reads = refl;
    writes = refl;
    makes = λ src whole.
        let computes = change_computes (bits d) (bits to) (scale d) (scale to) in
        same_samples true _ (change_depth (bits d) (bits to)) (samples_of true src) computes ∙ by_pixels true true (change_depth (bits d) (bits to)) src whole;
    counts = λ src. sym (none-clipped (read true src));
  }

-- ---- the conversions of the rules for pixels, each offered where its depth is
pub offers-done : (rule : PixelRule) (n : ℕ) → offers (done_by rule n) ≡ offered n
offers-done rule.ToLumaChroma n = and_same (offered n)
offers-done rule.FromLumaChroma n = and_same (offered n)
offers-done rule.ToEsycc n = and_same (offered n)
offers-done rule.FromEsycc n = and_same (offered n)
offers-done rule.ToSycc n = and_right (offered n)
offers-done rule.FromSycc n = refl

clips-done : (rule : PixelRule) (n : ℕ) → (row (done_by rule n)).clips ≡ none
clips-done rule.ToLumaChroma n = refl
clips-done rule.FromLumaChroma n = refl
clips-done rule.ToEsycc n = refl
clips-done rule.FromEsycc n = refl
clips-done rule.ToSycc n = refl
clips-done rule.FromSycc n = refl

pub plan_pixels : (rule : PixelRule) (d : Depth) → Plans (done_by rule (bits d)) (coding_of (source (done_by rule (bits d)))) (Pixels rule d)
plan_pixels rule d = record {
  offered = offers-done rule (bits d) ∙ offered-bits d;
  coding-is = refl;
  reads = refl;
  writes = refl;
  makes = λ src whole. refl;
  counts = λ src. rw (clips-done rule (bits d)) (sym (none-clipped _));
}

-- ---- a conversion, a coding and a loop that are known by equations
pub same_plan :
    {c c' : Conversion} {coding coding' : Coding} {work work' : Work} → c ≡ c' → coding ≡ coding' → work ≡ work'
    → Plans c' coding' work' → Plans c coding work
same_plan e f g p = rw (e, f, g) p
