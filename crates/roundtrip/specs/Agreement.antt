-- Demand 3 (rules, section 5): the picture itself, document 01's wall run, and its round trip through luma and chroma, the counter
-- run, agree, for every picture and the whole chain of calls.
-- Assumes nothing.
use Rattle.std.specs.Prelude.{ℕ, ◌+◌, ◌≤◌, ◌<◌, ◌≡◌, true, ◌↔◌, List, length}
use Rattle.refusal.specs.Answers.{Said, accepted}
use Rattle.samples.specs.declared.Pixel.{Pixel}
use Rattle.esrgb.specs.Depths.{offered, middle}
use Rattle.lumachroma.specs.Near.{Near}
use Rattle.picture.specs.declared.Conversion.TheVariants.{FromSrgb, ToSrgb, ToLumaChroma, FromLumaChroma}
use Rattle.picture.specs.Forms.{srgb, esrgb, luma_chroma, pixels_in}
use Rattle.picture.specs.Convert.{clipped_in}
use Rattle.roundtrip.specs.Pictures.{Channel, channel, pixel_at, Picture}
use Rattle.roundtrip.specs.Calls.{Call, Clips}

-- Rule 5.1, of a pixel of codes e, its luma and chroma s, and what comes back, b.
pub record Kept (n : ℕ) (e s b : Pixel) : Type 0 where
  pub near : (k : Channel) → Near (channel k e) (channel k b)
  pub grey : e.first ≡ e.second → e.second ≡ e.third → (b ≡ e) × (s.second ≡ middle n) × (s.third ≡ middle n)

-- Rule 5.1, of a whole picture of codes and the answers of the two calls.
pub record RoundTrip (n : ℕ) (codes ycc back : List ℕ) (there-says back-says : Said) : Type 0 where
  pub there : there-says ≡ accepted (pixels_in (esrgb n) codes)
  pub again : back-says ≡ accepted (pixels_in (esrgb n) codes)
  pub size : length back ≡ length codes
  pub kept :
      (j : ℕ) → j < pixels_in (esrgb n) codes
      → Kept n (pixel_at (esrgb n) codes j) (pixel_at (luma_chroma n) ycc j) (pixel_at (esrgb n) back j)

-- Rule 5.2 at 10 bits, of an 8-bit channel a, its code e, the code b that comes back, and b brought to 8 bits, x.
pub record OneGreater (a e b x : ℕ) : Type 0 where
  pub least : a ≤ x
  pub most : x ≤ a + 1
  pub greater : x ≡ a + 1 ↔ ((b ≡ e + 1) × (a < 255))

-- Rule 5.2, of an sRGB picture: both pictures of codes brought back to 8 bits, the answers of those calls and of the first, and the clipped
-- pixels that they count. That the picture of codes has as many pixels makes the round trip's answers the sRGB picture's count too.
pub record BackToEight
    (n : ℕ) (picture codes back codes₈ back₈ : List ℕ) (made-says codes-says back-says : Said) (codes-clips back-clips : ℕ) : Type 0 where
  pub count : pixels_in (esrgb n) codes ≡ pixels_in srgb picture
  pub made : made-says ≡ accepted (pixels_in srgb picture)
  pub codes-back : codes-says ≡ accepted (pixels_in srgb picture)
  pub trip-back : back-says ≡ accepted (pixels_in srgb picture)
  pub codes-clipped : codes-clips ≡ 0
  pub trip-clipped : back-clips ≡ clipped_in (ToSrgb n) back
  pub codes_exact : codes₈ ≡ picture
  pub size : length back₈ ≡ length picture
  pub trip_exact : 12 ≤ n → back₈ ≡ picture
  pub trip_at_ten :
      n ≡ 10 → (j : ℕ) → j < pixels_in srgb picture → (k : Channel)
      → OneGreater (channel k (pixel_at srgb picture j)) (channel k (pixel_at (esrgb n) codes j)) (channel k (pixel_at (esrgb n) back j))
      (channel k (pixel_at srgb back₈ j))

-- Rule 5.3, demand 3: of every e-sRGB picture and of every sRGB picture, at one depth n, in destinations that held anything before
-- (b₀ to b₄).
pub record Demand3 : Type 0 where
  pub of_codes :
      (n : ℕ) → offered n ≡ true
      → (codes b₁ ycc b₂ back : List ℕ) (a₁ a₂ : Said)
      → Picture (esrgb n) codes
      → Call (ToLumaChroma n) codes b₁ ycc a₁
      → Call (FromLumaChroma n) ycc b₂ back a₂
      → RoundTrip n codes ycc back a₁ a₂
  pub of_srgb :
      (n : ℕ) → offered n ≡ true
      → (picture b₀ codes b₁ ycc b₂ back b₃ codes₈ b₄ back₈ : List ℕ) (a₀ a₁ a₂ a₃ a₄ : Said) (k₃ k₄ : ℕ)
      → Picture srgb picture
      → Call (FromSrgb n) picture b₀ codes a₀
      → Call (ToLumaChroma n) codes b₁ ycc a₁
      → Call (FromLumaChroma n) ycc b₂ back a₂
      → Call (ToSrgb n) codes b₃ codes₈ a₃ → Clips n codes b₃ k₃
      → Call (ToSrgb n) back b₄ back₈ a₄ → Clips n back b₄ k₄
      → Picture (esrgb n) codes × RoundTrip n codes ycc back a₁ a₂ × BackToEight n picture codes back codes₈ back₈ a₀ a₃ a₄ k₃ k₄
