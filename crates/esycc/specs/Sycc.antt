-- 8-bit sYCC of a pixel of e-sRGB codes, and the way back (rules 12.6 and 12.7; PIMA 7667, annex C with m = 8).
-- Assumes nothing.
use Rattle.std.specs.Prelude.{ℕ, ◌+◌, ◌-◌, ◌*◌, min}
use Rattle.numbers.specs.Rounding.{nearest}
use Rattle.samples.specs.declared.Pixel.{Pixel}
use Rattle.samples.specs.Samples.{pixel}
use Rattle.esrgb.specs.Depths.{scale}
use Rattle.esycc.specs.Esycc.{weighted, luma, Ycc, from_ycc}

-- Rule 12.6 (C3 and the clip after C4): a channel less luma, clipped to −1/2 to 1/2. Here a half more, so from 0 to 1, in parts of which
-- half is a half.
unfoldable pub half_more : ℕ → ℕ → ℕ → ℕ
half_more up down half = min (2 * half) (up + half - down)

-- Rule 12.6 (C6): 255 times the chroma plus 128, which is 255 times a half more, and a half. To the nearest, ties upward, then clipped to
-- a byte.
unfoldable pub chroma_byte : ℕ → ℕ → ℕ → ℕ
chroma_byte up down half = min 255 (nearest (255 * half_more up down half + half) (2 * half))

-- Rule 12.6 (C3): the divisors 1.772 and 1.402, of which the halves are 886 and 701 thousandths.
abbrev pub to_sycc : ℕ → Pixel → Pixel
to_sycc n p =
    pixel
    (luma 255 n p)
    (chroma_byte (1000 * p.third) (weighted p) (886 * scale n))
    (chroma_byte (1000 * p.first) (weighted p) (701 * scale n))

-- Rule 12.7 (C7, C8): luma is y / 255, and a chroma (c / 255 − 1/2) / 2, here all over 1,020.
abbrev pub of_sycc : Pixel → Ycc
of_sycc p = record { one = 1020; grey = 255; y = 4 * p.first; cb = 2 * p.second; cr = 2 * p.third }

abbrev pub from_sycc : ℕ → Pixel → Pixel
from_sycc n p = from_ycc n (of_sycc p)
