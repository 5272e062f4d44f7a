-- One pixel of each conversion of the two runs, channel by channel.
-- Assumes nothing.
use Prim.Native.Nat.{ℕ, ◌+◌, ◌^◌, ◌≤◌, ◌<◌, min}
use mathlib.Core.Path.{◌≡◌, refl}
use native.Mathlib.Omega.{arith}
use native.Mathlib.Decide.{dec_lt}
use Rattle.samples.specs.declared.Pixel.{Pixel}
use Rattle.samples.specs.Samples.{pixel}
use Rattle.esrgb.specs.Depths.{step}
use Rattle.esrgb.specs.Codes.{from_srgb, srgb_value}
use Rattle.esrgb.proofs.Scale.{Scale}
use Rattle.esrgb.proofs.Eight.{from_srgb_next, to_srgb_nearest}
use Rattle.lumachroma.specs.Near.{Near}
use Rattle.lumachroma.proofs.Pixel.{luma_bounds, blue_chroma_bounds, red_chroma_bounds, red-near, green-near, blue-near}
use Rattle.lumachroma.proofs.Pixel.{grey_blue_chroma, grey_red_chroma, grey-red, grey-green, grey-blue, red-code, green-code, blue-code}
use Rattle.lumachroma.specs.LumaChroma.{to_luma_chroma, to_rgb}
use Rattle.picture.specs.Convert.{each}
use Rattle.roundtrip.specs.Pictures.{Channel, first, second, third, channel}
use Rattle.roundtrip.specs.Agreement.{Kept, OneGreater}

-- Every channel of a pixel is a number of so many bits.
abbrev pub Codes : ℕ → Pixel → Type 0
Codes bits p = (k : Channel) → channel k p < 2 ^ bits

pub by_channels : (p q : Pixel) → ((k : Channel) → channel k p ≡ channel k q) → p ≡ q
by_channels p q h = λ i. pixel (h first i) (h second i) (h third i)

pub channel_of_each : (f : ℕ → ℕ) (p : Pixel) (k : Channel) → channel k (each f p) ≡ f (channel k p)
channel_of_each f p first = refl
channel_of_each f p second = refl
channel_of_each f p third = refl

-- ---- to luma and chroma, and back
pub back-codes : (n : ℕ) (s : Scale n) (p : Pixel) → Codes n (to_rgb n p)
back-codes n s p first = red-code n p.first p.second p.third s
back-codes n s p second = green-code n p.first p.second p.third s
back-codes n s p third = blue-code n p.first p.second p.third s

module _ (n : ℕ) (s : Scale n) (p : Pixel) (h : Codes n p) where
  pub ycc-codes : Codes n (to_luma_chroma n p)
  ycc-codes first = (luma_bounds n _ _ _ s (h first) (h second) (h third)).most
  ycc-codes second = (blue_chroma_bounds n _ _ _ s (h first) (h second) (h third)).most
  ycc-codes third = (red_chroma_bounds n _ _ _ s (h first) (h second) (h third)).most

  pub ycc-chroma : (1 ≤ (to_luma_chroma n p).second) × (1 ≤ (to_luma_chroma n p).third)
  ycc-chroma =
      ((blue_chroma_bounds n _ _ _ s (h first) (h second) (h third)).least, (red_chroma_bounds n _ _ _ s (h first) (h second) (h third)).least)

  near : (k : Channel) → Near (channel k p) (channel k (to_rgb n (to_luma_chroma n p)))
  near first = red-near n _ _ _ s (h first) (h second) (h third)
  near second = green-near n _ _ _ s (h first) (h second) (h third)
  near third = blue-near n _ _ _ s (h first) (h second) (h third)

  module _ (rg : p.first ≡ p.second) (gb : p.second ≡ p.third) where
    grey-back : (k : Channel) → channel k (to_rgb n (to_luma_chroma n p)) ≡ channel k p
    grey-back first = grey-red n _ _ _ s (h first) (h second) (h third) rg gb
    grey-back second = grey-green n _ _ _ s (h first) (h second) (h third) rg gb
    grey-back third = grey-blue n _ _ _ s (h first) (h second) (h third) rg gb

  pub kept : Kept n p (to_luma_chroma n p) (to_rgb n (to_luma_chroma n p))
  kept = record {
    near = near;
    grey = λ rg gb. (
      by_channels _ _ (grey-back rg gb),
      grey_blue_chroma n _ _ _ s (h first) (h second) (h third) rg gb,
      grey_red_chroma n _ _ _ s (h first) (h second) (h third) rg gb,
    );
  }

-- ---- the round trip's codes, to 8 bits: b is within one of the code of a
module _ (n a b : ℕ) (s : Scale n) (h : a < 256) (near-code : Near (from_srgb n a) b) where
  pub near_exact : 2 < step n → srgb_value n b ≡ a
  near_exact k = omega (arith, to_srgb_nearest n a b s (omega arith) (omega arith))

  -- A step of 2 codes makes one code more a tie, which goes upward.
  pub one-greater : step n ≡ 2 → OneGreater a (from_srgb n a) b (srgb_value n b)
  one-greater k =
      elim (dec_lt (from_srgb n a) b) [
        | yes above ↦
            let next : from_srgb n (a + 1) ≡ from_srgb n a + step n = from_srgb_next n a in
            let x : srgb_value n b ≡ min 255 (a + 1) = to_srgb_nearest n (a + 1) b s (omega arith) (omega arith) in
            omega arith
        | no not_above ↦
            let x : srgb_value n b ≡ min 255 a = to_srgb_nearest n a b s (omega arith) (omega arith) in
            omega arith
      ]
