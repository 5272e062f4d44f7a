-- The pixel theorem: a pixel of codes comes back from luma and chroma with each channel within one, and a grey pixel as it was.
-- It is shown once for every depth n, over the depth's step. First the bounds of luma and chroma; the rest follows from them.
-- Assumes nothing.
use mathlib.Core.Path.{◌≡◌}
use Prim.Native.Nat.{ℕ, ◌+◌, ◌*◌, ◌^◌, ◌≤◌, ◌<◌}
use native.Mathlib.Omega.{arith}
use Rattle.numbers.specs.Rounding.{nearest, nearest_down, clipped_to}
use Rattle.esrgb.specs.Depths.{greatest, middle}
use Rattle.esrgb.proofs.Scale.{Scale}
use Rattle.lumachroma.specs.LumaChroma.{luma, chroma, blue_chroma, red_chroma, red_back, green_back, blue_back}
use Rattle.lumachroma.specs.Near.{Near}

-- y is within a half of the weighted sum ÷ 1,000, and a code.
pub record LumaBounds (n r g b y : ℕ) : Type 0 where
  pub above : 1000 * y ≤ 299 * r + 587 * g + 114 * b + 500
  pub below : 299 * r + 587 * g + 114 * b < 1000 * y + 500
  pub most : y < 2 ^ n

-- c less the middle is within a half of (up − down) ÷ den, and c is a code and not 0.
pub record ChromaBounds (n up down den c : ℕ) : Type 0 where
  pub above : 2 * den * c + 2 * down ≤ 2 * den * middle n + 2 * up + den
  pub below : 2 * den * middle n + 2 * up ≤ 2 * den * c + 2 * down + den
  pub least : 1 ≤ c
  pub most : c < 2 ^ n

module _ (n r g b : ℕ) (s : Scale n) (hr : r < 2 ^ n) (hg : g < 2 ^ n) (hb : b < 2 ^ n) where
  pub luma_bounds : LumaBounds n r g b (luma r g b)
  unfolding luma nearest
  luma_bounds = omega arith

  pub blue_chroma_bounds : ChromaBounds n (886 * b) (299 * r + 587 * g) 1772 (blue_chroma n r g b)
  unfolding blue_chroma chroma nearest_down
  blue_chroma_bounds = omega arith

  pub red_chroma_bounds : ChromaBounds n (701 * r) (587 * g + 114 * b) 1402 (red_chroma n r g b)
  unfolding red_chroma chroma nearest_down
  red_chroma_bounds = omega arith

  pub red-near : Near r (red_back n (luma r g b) (blue_chroma n r g b) (red_chroma n r g b))
  unfolding red_back clipped_to nearest
  red-near = omega (arith, luma_bounds, red_chroma_bounds)

  pub green-near : Near g (green_back n (luma r g b) (blue_chroma n r g b) (red_chroma n r g b))
  unfolding green_back clipped_to nearest
  green-near = omega (arith, luma_bounds, blue_chroma_bounds, red_chroma_bounds)

  pub blue-near : Near b (blue_back n (luma r g b) (blue_chroma n r g b) (red_chroma n r g b))
  unfolding blue_back clipped_to nearest
  blue-near = omega (arith, luma_bounds, blue_chroma_bounds)

  module _ (rg : r ≡ g) (gb : g ≡ b) where
    pub grey_blue_chroma : blue_chroma n r g b ≡ middle n
    unfolding blue_chroma chroma nearest_down
    grey_blue_chroma = omega arith

    pub grey_red_chroma : red_chroma n r g b ≡ middle n
    unfolding red_chroma chroma nearest_down
    grey_red_chroma = omega arith

    pub grey-red : red_back n (luma r g b) (blue_chroma n r g b) (red_chroma n r g b) ≡ r
    unfolding red_back clipped_to nearest
    grey-red = omega (arith, luma_bounds, grey_red_chroma)

    pub grey-green : green_back n (luma r g b) (blue_chroma n r g b) (red_chroma n r g b) ≡ g
    unfolding green_back clipped_to nearest
    grey-green = omega (arith, luma_bounds, grey_blue_chroma, grey_red_chroma)

    pub grey-blue : blue_back n (luma r g b) (blue_chroma n r g b) (red_chroma n r g b) ≡ b
    unfolding blue_back clipped_to nearest
    grey-blue = omega (arith, luma_bounds, grey_blue_chroma)

-- What comes back is a code, from any three numbers.
clipped-code : (n up down den : ℕ) → Scale n → clipped_to (greatest n) up down den < 2 ^ n
unfolding clipped_to
clipped-code n up down den s = omega arith

module _ (n y cb cr : ℕ) (s : Scale n) where
  pub red-code : red_back n y cb cr < 2 ^ n
  unfolding red_back
  red-code = clipped-code n _ _ _ s

  pub green-code : green_back n y cb cr < 2 ^ n
  unfolding green_back
  green-code = clipped-code n _ _ _ s

  pub blue-code : blue_back n y cb cr < 2 ^ n
  unfolding blue_back
  blue-code = clipped-code n _ _ _ s
