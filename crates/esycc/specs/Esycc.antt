-- e-sYCC of a pixel of e-sRGB codes, and the way back (rules 12.1 to 12.5; PIMA 7667, annex B with m = n, its decimals as exact fractions).
-- A signed quotient has a part that counts up and one that counts down, since a difference of ℕ stops at 0.
-- Assumes nothing.
use Rattle.std.specs.Prelude.{ℕ, ◌+◌, ◌*◌}
use Rattle.numbers.specs.Rounding.{clipped_to}
use Rattle.samples.specs.declared.Pixel.{Pixel}
use Rattle.samples.specs.Samples.{pixel}
use Rattle.esrgb.specs.Depths.{greatest, middle, offset, scale}

-- The code of a number v = (up − down) / den: v × weight + origin, to the nearest, ties upward, rounded once and then clipped to 0 to most.
-- B5 and B6 (C5): the weight is the greatest code, and origin the code of v = 0. B10 (B11): the weight is the scale, and origin the offset.
unfoldable pub code : ℕ → ℕ → ℕ → ℕ → ℕ → ℕ → ℕ
code most origin weight up down den = clipped_to most (weight * up + origin * den) (weight * down) den

-- Rule 12.2 (B3): 1,000 times luma, of codes and so with 1,000 offsets in it.
abbrev pub weighted : Pixel → ℕ
weighted p = 299 * p.first + 587 * p.second + 114 * p.third

-- Rules 12.2 and 12.3 (B1, B3, B5; C1, C3, C5), in codes from 0 to most.
unfoldable pub luma : ℕ → ℕ → Pixel → ℕ
luma most n p = code most 0 most (weighted p) (1000 * offset n) (1000 * scale n)

-- Rules 12.2 and 12.3 (B1, B3, B6): a channel less luma, over a divisor in thousandths. Of both the offset is taken, and so of neither.
unfoldable pub chroma : ℕ → ℕ → ℕ → Pixel → ℕ
chroma n divisor channel p = code (greatest n) (middle n) (greatest n) (1000 * channel) (weighted p) (divisor * scale n)

abbrev pub to_esycc : ℕ → Pixel → Pixel
to_esycc n p = pixel (luma (greatest n) n p) (chroma n 3544 p.third p) (chroma n 2804 p.first p)

-- Luma and the chromas that B9 reads: y / one, (cb − grey) / one and (cr − grey) / one.
pub record Ycc : Type 0 where
  pub one : ℕ
  pub grey : ℕ
  pub y : ℕ
  pub cb : ℕ
  pub cr : ℕ

-- Rule 12.5 (B9, B10, B11): a row of B9, in ten-thousandths, as a code: luma with so much of the chromas added, or taken away.
unfoldable pub adding : ℕ → Ycc → ℕ → ℕ → ℕ
adding n v a b =
    code (greatest n) (offset n) (scale n) (10000 * v.y + (a * v.cb + b * v.cr)) (a * v.grey + b * v.grey) (10000 * v.one)

unfoldable pub taking : ℕ → Ycc → ℕ → ℕ → ℕ
taking n v a b =
    code (greatest n) (offset n) (scale n) (10000 * v.y + (a * v.grey + b * v.grey)) (a * v.cb + b * v.cr) (10000 * v.one)

-- B9: 1.0000, 0.0000, 2.8040; 1.0000, −0.6882, −1.4282; 1.0000, 3.5440, 0.0003.
abbrev pub from_ycc : ℕ → Ycc → Pixel
from_ycc n v = pixel (adding n v 0 28040) (taking n v 6882 14282) (adding n v 35440 3)

-- Rule 12.4 (B7, B8).
abbrev pub of_esycc : ℕ → Pixel → Ycc
of_esycc n p = record { one = greatest n; grey = middle n; y = p.first; cb = p.second; cr = p.third }

abbrev pub from_esycc : ℕ → Pixel → Pixel
from_esycc n p = from_ycc n (of_esycc n p)
