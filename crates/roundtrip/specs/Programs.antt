-- What the two functions of this crate promise: each call as Convert's definition has it, whatever the buffers are; and demand 3, if the
-- depth is offered, the picture is a picture and every destination has the length needed.
-- Assumes nothing.
use Rattle.std.specs.Prelude.{ℕ, ◌*◌, ◌%◌, ◌≡◌, true, List, length}
use Rattle.refusal.specs.Answers.{Said}
use Rattle.esrgb.specs.Depths.{offered}
use Rattle.picture.specs.declared.Conversion.TheVariants.{FromSrgb, ToSrgb, ToLumaChroma, FromLumaChroma}
use Rattle.picture.specs.Forms.{esrgb}
use Rattle.roundtrip.specs.Pictures.{Picture}
use Rattle.roundtrip.specs.Calls.{Called, Clips}
use Rattle.roundtrip.specs.Agreement.{RoundTrip, BackToEight}

-- A picture of codes through luma and chroma and back. The destinations held b₁ and b₂ before.
pub record Trip (n : ℕ) (codes b₁ ycc b₂ back : List ℕ) (a₁ a₂ : Said) : Type 0 where
  pub there : Called (ToLumaChroma n) codes b₁ ycc a₁
  pub again : Called (FromLumaChroma n) ycc b₂ back a₂
  pub agrees :
      offered n ≡ true → Picture (esrgb n) codes → length b₁ ≡ length codes → length b₂ ≡ length codes → RoundTrip n codes ycc back a₁ a₂

-- The lengths that the destinations of both runs need, for an sRGB picture.
pub record Rooms (picture b₀ b₁ b₂ b₃ b₄ : List ℕ) : Type 0 where
  pub codes : length b₀ ≡ 2 * length picture
  pub ycc : length b₁ ≡ 2 * length picture
  pub back : length b₂ ≡ 2 * length picture
  pub direct : length b₃ ≡ length picture
  pub round : length b₄ ≡ length picture

-- An sRGB picture to codes, the codes through luma and chroma and back, and both brought to 8 bits: `direct` from the codes, `round` from
-- what the round trip brought back, each with the clipped pixels that it counts. Whole pixels of any bytes are an sRGB picture.
pub record BothRuns (n : ℕ) (picture b₀ codes b₁ ycc b₂ back b₃ direct b₄ round : List ℕ) (a₀ a₁ a₂ a₃ a₄ : Said) (k₃ k₄ : ℕ) : Type 0 where
  pub made : Called (FromSrgb n) picture b₀ codes a₀
  pub trip : Trip n codes b₁ ycc b₂ back a₁ a₂
  pub direct-back : Called (ToSrgb n) codes b₃ direct a₃
  pub direct-clips : Clips n codes b₃ k₃
  pub round-back : Called (ToSrgb n) back b₄ round a₄
  pub round-clips : Clips n back b₄ k₄
  pub agrees :
      offered n ≡ true → length picture % 3 ≡ 0 → Rooms picture b₀ b₁ b₂ b₃ b₄
      → Picture (esrgb n) codes × RoundTrip n codes ycc back a₁ a₂ × BackToEight n picture codes back direct round a₀ a₃ a₄ k₃ k₄
