-- Demand 3: from what each call does, what the round trip keeps, and what both runs bring back to 8 bits.
-- Assumes nothing.
use Prim.Native.Nat.{ℕ, ◌*◌, ◌<◌}
use mathlib.Core.Path.{◌≡◌, ap, ◌∙◌}
use mathlib.Core.Bool.{true, false}
use mathlib.Core.List.{List}
use native.Mathlib.Omega.{arith}
use native.Mathlib.Nat.{div-add-mod}
use lib.ListN.{length}
use Rattle.numbers.proofs.Counting.{count_none}
use Rattle.refusal.specs.Answers.{Said, accepted}
use Rattle.samples.specs.Samples.{pixel_size, no_pixel, read}
use Rattle.samples.proofs.Buffers.{length-read, same-pixels}
use Rattle.esrgb.specs.Codes.{from_srgb, to_srgb, srgb_value}
use Rattle.esrgb.proofs.Scale.{Scale, scale_of, deep_step}
use Rattle.esrgb.proofs.Eight.{to_srgb_exact}
use Rattle.esrgb.proofs.Held.{srgb_held}
use Rattle.lumachroma.specs.Near.{Near}
use Rattle.picture.specs.declared.Conversion.TheVariants.{FromSrgb, ToSrgb, ToLumaChroma, FromLumaChroma}
use Rattle.picture.specs.Forms.{Form, srgb, esrgb, wide_form, pixels_in}
use Rattle.picture.specs.Convert.{clipped, clipped_in}
use Rattle.lumachroma.specs.LumaChroma.{to_luma_chroma, to_rgb}
use Rattle.roundtrip.specs.Pictures.{Channel, first, second, third, channel, pixel_at, Picture}
use Rattle.roundtrip.specs.Agreement.{RoundTrip, BackToEight, Demand3}
use Rattle.roundtrip.proofs.Pixel.{by_channels, channel_of_each, kept, near_exact, one-greater}
use Rattle.roundtrip.proofs.Calls.{Went, from-srgb, to_srgb_lem, to_ycc, from-ycc, clips_given, ycc-sound}

-- Pictures of one form with as many pixels are equally long, and sRGB pictures with the same channels are the same.
same_length :
    {form : Form} {xs ys : List ℕ} → Picture form xs → Picture form ys → pixels_in form xs ≡ pixels_in form ys → length xs ≡ length ys
same_length {form} {xs} {ys} p q h =
    let size : ℕ = pixel_size (wide_form form) in
    let same : size * pixels_in form xs ≡ size * pixels_in form ys = ap (λ count. size * count) h in
    omega (arith, div-add-mod (length xs) size, div-add-mod (length ys) size, p.whole, q.whole)

same_picture :
    {xs ys : List ℕ} → Picture srgb xs → Picture srgb ys → pixels_in srgb xs ≡ pixels_in srgb ys
    → ((j : ℕ) → j < pixels_in srgb ys → (k : Channel) → channel k (pixel_at srgb xs j) ≡ channel k (pixel_at srgb ys j)) → xs ≡ ys
same_picture p q count h = same-pixels no_pixel _ _ p.whole (same_length p q count) (λ j i. by_channels _ _ (h j (rw count at i)))

-- ---- the round trip
module _ {n : ℕ} (s : Scale n) {codes ycc back : List ℕ} {a₁ a₂ : Said} (p : Picture (esrgb n) codes)
    (there : Went (ToLumaChroma n) codes ycc a₁) (again : Went (FromLumaChroma n) ycc back a₂) where
  back_at : (j : ℕ) → j < pixels_in (esrgb n) codes → pixel_at (esrgb n) back j ≡ to_rgb n (to_luma_chroma n (pixel_at (esrgb n) codes j))
  back_at j h = again.pixels j (rw there.count h) ∙ ap (to_rgb n) (there.pixels j h)

  round_trip : RoundTrip n codes ycc back a₁ a₂
  round_trip = record {
    there = there.says;
    again = again.says ∙ ap accepted there.count;
    size = same_length again.picture p (again.count ∙ there.count);
    kept = λ j h. rw (back_at j h, there.pixels j h) (kept n s _ (p.codes j h));
  }

-- ---- both runs, from sRGB and back to it
module _ {n : ℕ} (s : Scale n) {picture codes ycc back codes₈ back₈ : List ℕ} {a₀ a₁ a₂ a₃ a₄ : Said} (p : Picture srgb picture)
    (made : Went (FromSrgb n) picture codes a₀) (trip : RoundTrip n codes ycc back a₁ a₂)
    (codes-to : Went (ToSrgb n) codes codes₈ a₃) (back_to : Went (ToSrgb n) back back₈ a₄)
    {k₃ k₄ : ℕ} (codes-counts : k₃ ≡ clipped_in (ToSrgb n) codes) (back-counts : k₄ ≡ clipped_in (ToSrgb n) back) where
  back_count : pixels_in (esrgb n) back ≡ pixels_in srgb picture
  back_count = rw trip.size made.count

  -- Channel k of pixel j.
  module _ (j : ℕ) (h : j < pixels_in srgb picture) (k : Channel) where
    its_code : channel k (pixel_at (esrgb n) codes j) ≡ from_srgb n (channel k (pixel_at srgb picture j))
    its_code = ap (channel k) (made.pixels j h) ∙ channel_of_each (from_srgb n) _ k

    near_its_code : Near (from_srgb n (channel k (pixel_at srgb picture j))) (channel k (pixel_at (esrgb n) back j))
    near_its_code = rw its_code at ((trip.kept j (rw made.count h)).near k)

    code_to_eight : channel k (pixel_at srgb codes₈ j) ≡ channel k (pixel_at srgb picture j)
    code_to_eight =
        ap (channel k) (codes-to.pixels j (rw made.count h))
        ∙ channel_of_each (srgb_value n) _ k
        ∙ ap (srgb_value n) its_code
        ∙ to_srgb_exact n _ s (p.codes j h k)

    back_to_eight : channel k (pixel_at srgb back₈ j) ≡ srgb_value n (channel k (pixel_at (esrgb n) back j))
    back_to_eight = ap (channel k) (back_to.pixels j (rw back_count h)) ∙ channel_of_each (srgb_value n) _ k

    code_held : (to_srgb n (channel k (pixel_at (esrgb n) codes j))).clipped ≡ false
    code_held = rw its_code (srgb_held n _ (p.codes j h k))

  -- No pixel of the picture has a colour that sRGB cannot hold.
  none-clipped : clipped_in (ToSrgb n) codes ≡ 0
  none-clipped =
      count_none (clipped n) (read true codes) no_pixel
      (λ j i.
      let h : j < pixels_in srgb picture = rw (length-read true codes, made.count) at i in
      rw (code_held j h first, code_held j h second, code_held j h third))

  both_back : BackToEight n picture codes back codes₈ back₈ a₀ a₃ a₄ k₃ k₄
  both_back = record {
    count = made.count;
    made = made.says;
    codes-back = codes-to.says ∙ ap accepted made.count;
    trip-back = back_to.says ∙ ap accepted back_count;
    codes-clipped = codes-counts ∙ none-clipped;
    trip-clipped = back-counts;
    codes_exact = same_picture codes-to.picture p (codes-to.count ∙ made.count) code_to_eight;
    size = same_length back_to.picture p (back_to.count ∙ back_count);
    trip_exact = λ deep.
        same_picture back_to.picture p (back_to.count ∙ back_count)
        (λ j h k. back_to_eight j h k ∙ near_exact n _ _ s (p.codes j h k) (near_its_code j h k) (omega (arith, deep_step n deep)));
    trip_at_ten = λ ten j h k.
        rw (back_to_eight j h k, its_code j h k) (one-greater n _ _ s (p.codes j h k) (near_its_code j h k) (rw ten));
  }

pub demand3 : Demand3
demand3 = record {
  of_codes = λ n o codes b₁ ycc b₂ back a₁ a₂ p c₁ c₂.
      let there = to_ycc o p c₁ in
      round_trip (scale_of n o) p there (from-ycc o (ycc-sound o p there) c₂);
  of_srgb = λ n o picture b₀ codes b₁ ycc b₂ back b₃ codes₈ b₄ back₈ a₀ a₁ a₂ a₃ a₄ k₃ k₄ p c₀ c₁ c₂ c₃ d₃ c₄ d₄.
      let made = from-srgb o p c₀ in
      let there = to_ycc o made.picture c₁ in
      let again = from-ycc o (ycc-sound o made.picture there) c₂ in
      let trip = round_trip (scale_of n o) made.picture there again in
      let codes-to = to_srgb_lem o made.picture c₃ in
      let back_to = to_srgb_lem o again.picture c₄ in
      let eight = both_back (scale_of n o) p made trip codes-to back_to (clips_given c₃ codes-to.says d₃) (clips_given c₄ back_to.says d₄) in
      (made.picture, trip, eight);
}
