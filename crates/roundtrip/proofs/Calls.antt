-- A call of Convert whose source has no sample at fault: it is accepted, and its destination holds the converted pixels.
-- Assumes nothing.
use Prim.Native.Nat.{ℕ, ◌≤◌, ◌<◌}
use mathlib.Core.Path.{◌≡◌, refl, sym, ap, ◌∙◌}
use mathlib.Core.Bool.{Bool, true, false≢true}
use mathlib.Core.List.{List, map}
use native.Mathlib.Omega.{arith}
use native.Mathlib.Nat.{mul-mod_right}
use lib.ListN.{length, get_or, length-map, get_or-map}
use Rattle.refusal.specs.Answers.{Said, accepted, leaves}
use Rattle.samples.specs.declared.Pixel.{Pixel}
use Rattle.samples.specs.Samples.{pixel_size, no_pixel, read}
use Rattle.samples.specs.Faults.{source_says}
use Rattle.samples.proofs.Buffers.{length-read, length-write, pixels_in_size, Fits, written_at}
use Rattle.samples.proofs.Judging.{SoundPixel, Sounds, sound-pixels}
use Rattle.samples.proofs.Order.{says_samples}
use Rattle.esrgb.specs.Depths.{offered, greatest}
use Rattle.esrgb.proofs.Scale.{scale_of}
use Rattle.esrgb.proofs.Eight.{from_srgb_code, to_srgb_byte}
use Rattle.picture.specs.declared.Conversion.{Conversion}
use Rattle.picture.specs.declared.Conversion.TheVariants.{FromSrgb, ToSrgb, ToLumaChroma, FromLumaChroma}
use Rattle.picture.specs.Forms.{Form, srgb, esrgb, luma_chroma, bits_of, coding_of, wide_form, pixels_in, offers_form}
use Rattle.picture.specs.Convert.{source, target, pixel_of, needed, converted, clipped_in}
use Rattle.roundtrip.specs.Pictures.{first, second, third, pixel_at, Picture}
use Rattle.roundtrip.specs.Calls.{Call, Clips}
use Rattle.roundtrip.proofs.Pixel.{Codes, channel_of_each, ycc-codes, ycc-chroma, back-codes}

-- A picture with no sample at fault: of luma and chroma, no chroma is 0 either.
pub record Sound (form : Form) (bytes : List ℕ) : Type 0 where
  pub picture : Picture form bytes
  pub sounds : (j : ℕ) → j < pixels_in form bytes → Sounds (coding_of form) (pixel_at form bytes j)

-- What a call makes of it.
pub record Went (c : Conversion) (src after : List ℕ) (answer : Said) : Type 0 where
  pub says : answer ≡ accepted (pixels_in (source c) src)
  pub count : pixels_in (target c) after ≡ pixels_in (source c) src
  pub pixels : (j : ℕ) → j < pixels_in (source c) src → pixel_at (target c) after j ≡ pixel_of c (pixel_at (source c) src j)
  pub picture : Picture (target c) after

-- The bytes of a sample hold every code of its form.
abbrev Holds : Form → Type 0
Holds form = (p : Pixel) → Codes (bits_of form) p → Fits (wide_form form) p

one_byte : Holds srgb
one_byte p h = (h first, h second, h third)

two_bytes : (n : ℕ) → offered n ≡ true → (p : Pixel) → Codes n p → Fits true p
two_bytes n o p h = omega (arith, scale_of n o, h first, h second, h third)

-- A pixel of codes whose chroma is not 0 is sound.
sound-pixel : (n : ℕ) {chroma : Bool} {p : Pixel} → Codes n p → (chroma ≡ true → (1 ≤ p.second) × (1 ≤ p.third)) → SoundPixel chroma (greatest n) p
sound-pixel n h nonzero = record { first = omega (arith, h first); second = omega (arith, h second); third = omega (arith, h third); nonzero = nonzero }

module _ (c : Conversion) (src : List ℕ) where
  length-converted : length (converted c src) ≡ needed c src
  unfolding converted
  length-converted = simp (length-write, length-map, length-read)

  converted-at :
      (j : ℕ) → j < pixels_in (source c) src → Fits (wide_form (target c)) (pixel_of c (pixel_at (source c) src j))
      → pixel_at (target c) (converted c src) j ≡ pixel_of c (pixel_at (source c) src j)
  unfolding converted
  converted-at j h f =
      let ps : List Pixel = read (wide_form (source c)) src in
      let same : get_or (map (pixel_of c) ps) j (pixel_of c no_pixel) ≡ pixel_of c (get_or ps j no_pixel) = get_or-map (pixel_of c) ps j no_pixel in
      written_at (wide_form (target c)) (map (pixel_of c) ps) j _ _ (simp (length-map, length-read) h) (rw same f) ∙ same

module _ {c : Conversion} {src before after : List ℕ} {answer : Said}
    (from : offers_form (source c) ≡ true) (to : offers_form (target c) ≡ true) (holds : Holds (target c)) (sound : Sound (source c) src)
    (codes : (j : ℕ) → j < pixels_in (source c) src → Codes (bits_of (target c)) (pixel_of c (pixel_at (source c) src j)))
    (call : Call c src before after answer) where
  accepts : answer ≡ accepted (pixels_in (source c) src)
  unfolding source_says
  accepts =
      call.called.says
      ∙ rw (from, to)
      (says_samples (wide_form (source c)) (wide_form (target c)) (length src) (length before) _ sound.picture.whole call.room
      ∙ sound-pixels (coding_of (source c)) _ src sound.picture.whole sound.sounds)

  after_is : after ≡ converted c src
  after_is = call.called.bytes ∙ ap (λ a. leaves a (converted c src) before) (sym call.called.says ∙ accepts)

  size : length after ≡ needed c src
  size = ap length after_is ∙ length-converted c src

  same_count : pixels_in (target c) after ≡ pixels_in (source c) src
  same_count = rw size (pixels_in_size (wide_form (target c)) (pixels_in (source c) src))

  after-at : (j : ℕ) → j < pixels_in (source c) src → pixel_at (target c) after j ≡ pixel_of c (pixel_at (source c) src j)
  after-at j h = rw after_is (converted-at c src j h (holds _ (codes j h)))

  goes : Went c src after answer
  goes = record {
    says = accepts;
    count = same_count;
    pixels = after-at;
    picture = record {
      whole = rw size (mul-mod_right (pixel_size (wide_form (target c))) (pixels_in (source c) src));
      codes = λ j h k.
          let i : j < pixels_in (source c) src = rw same_count at h in
          rw (after-at j i) (codes j i k);
    };
  }

-- ---- the four conversions of both runs
no_fault : {n : ℕ} {src : List ℕ} → Picture (esrgb n) src → Sound (esrgb n) src
no_fault {n} p = record { picture = p; sounds = λ j h. sound-pixel n (p.codes j h) (λ e. absurd (false≢true e)) }

module _ {n : ℕ} (o : offered n ≡ true) {src before after : List ℕ} {answer : Said} where
  pub from-srgb : Picture srgb src → Call (FromSrgb n) src before after answer → Went (FromSrgb n) src after answer
  from-srgb p =
      goes refl o (two_bytes n o) (record { picture = p; sounds = λ j h. tt }) (λ j h k. rw channel_of_each (from_srgb_code n _ (scale_of n o) (p.codes j h k)))

  pub to_srgb_lem : Picture (esrgb n) src → Call (ToSrgb n) src before after answer → Went (ToSrgb n) src after answer
  to_srgb_lem p = goes o refl one_byte (no_fault p) (λ j h k. rw channel_of_each (to_srgb_byte n _))

  pub to_ycc : Picture (esrgb n) src → Call (ToLumaChroma n) src before after answer → Went (ToLumaChroma n) src after answer
  to_ycc p = goes o o (two_bytes n o) (no_fault p) (λ j h. ycc-codes n (scale_of n o) _ (p.codes j h))

  pub from-ycc : Sound (luma_chroma n) src → Call (FromLumaChroma n) src before after answer → Went (FromLumaChroma n) src after answer
  from-ycc s = goes o o (two_bytes n o) s (λ j h. back-codes n (scale_of n o) _)

-- An accepted call to sRGB gives the clipped pixels of its source.
pub clips_given :
    {n count clipped : ℕ} {src before after : List ℕ} {answer : Said} → Call (ToSrgb n) src before after answer → answer ≡ accepted count
    → Clips n src before clipped → clipped ≡ clipped_in (ToSrgb n) src
clips_given {n} {src = src} call accepts clips = clips ∙ ap (λ a. leaves a (clipped_in (ToSrgb n) src) 0) (sym call.called.says ∙ accepts)

-- No stored chroma is 0 (rule 2.4), so luma and chroma can be read back.
pub ycc-sound :
    {n : ℕ} {src after : List ℕ} {answer : Said} → offered n ≡ true → Picture (esrgb n) src → Went (ToLumaChroma n) src after answer
    → Sound (luma_chroma n) after
ycc-sound {n} {src} o p there = record {
  picture = there.picture;
  sounds = λ j h.
      let i : j < pixels_in (esrgb n) src = rw there.count at h in
      sound-pixel n (there.picture.codes j h) (λ e. rw (there.pixels j i) (ycc-chroma n (scale_of n o) _ (p.codes j i)));
}
