-- Luma and chroma of a pixel of e-sRGB codes, and the way back (rules, section 2; BT.601-5's luma weights): document 01's sheet.
-- A signed quotient has a part that counts up and one that counts down, since a difference of ℕ stops at 0.
-- Assumes nothing.
use Rattle.std.specs.Prelude.{ℕ, ◌+◌, ◌-◌, ◌*◌}
use Rattle.numbers.specs.Rounding.{nearest, nearest_down, clipped_to}
use Rattle.samples.specs.declared.Pixel.{Pixel}
use Rattle.samples.specs.Samples.{pixel}
use Rattle.esrgb.specs.Depths.{greatest, middle}

-- Rule 2.2.
unfoldable pub luma : ℕ → ℕ → ℕ → ℕ
luma r g b = nearest (299 * r + 587 * g + 114 * b) 1000

-- (up − down) / den, nearest, ties towards zero, with the middle code added (rules 2.3 and 2.4). One of the two differences is 0.
unfoldable pub chroma : ℕ → ℕ → ℕ → ℕ → ℕ
chroma n up down den = middle n + nearest_down (up - down) den - nearest_down (down - up) den

-- Rule 2.3, from the codes themselves.
unfoldable pub blue_chroma : ℕ → ℕ → ℕ → ℕ → ℕ
blue_chroma n r g b = chroma n (886 * b) (299 * r + 587 * g) 1772

unfoldable pub red_chroma : ℕ → ℕ → ℕ → ℕ → ℕ
red_chroma n r g b = chroma n (701 * r) (587 * g + 114 * b) 1402

-- Rule 2.5, red; the stored chroma has the middle code in it, which counts down here.
unfoldable pub red_back : ℕ → ℕ → ℕ → ℕ → ℕ
red_back n y cb cr = clipped_to (greatest n) (1000 * y + 1402 * cr) (1402 * middle n) 1000

-- Rule 2.5, green.
unfoldable pub green_back : ℕ → ℕ → ℕ → ℕ → ℕ
green_back n y cb cr = clipped_to (greatest n) (587000 * y + (202008 + 419198) * middle n) (202008 * cb + 419198 * cr) 587000

-- Rule 2.5, blue.
unfoldable pub blue_back : ℕ → ℕ → ℕ → ℕ → ℕ
blue_back n y cb cr = clipped_to (greatest n) (1000 * y + 1772 * cb) (1772 * middle n) 1000

-- Rule 2.1: the whole pixel, red, green, blue to luma, blue chroma, red chroma, and back.
abbrev pub to_luma_chroma : ℕ → Pixel → Pixel
to_luma_chroma n p =
    pixel (luma p.first p.second p.third) (blue_chroma n p.first p.second p.third) (red_chroma n p.first p.second p.third)

abbrev pub to_rgb : ℕ → Pixel → Pixel
to_rgb n p =
    pixel (red_back n p.first p.second p.third) (green_back n p.first p.second p.third) (blue_back n p.first p.second p.third)
