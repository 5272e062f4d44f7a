-- How the code works out a quotient: by factors that are shares in units, rounded down, and a start that holds what does not change. A
-- sum stands too high by a lift, so that none is below 0; an allowance makes up for the rounding of factors (numbers/Shares).
-- Assumes nothing.
use Rattle.std.specs.Prelude.{ℕ, ◌+◌, ◌-◌, ◌*◌, ◌/◌, ◌^◌, ◌≤◌, min, ◌≡◌}
use Rattle.samples.specs.declared.Pixel.{Pixel}
use Rattle.samples.specs.Samples.{pixel}
use Rattle.esrgb.specs.declared.Depth.{Depth}
use Rattle.esrgb.specs.declared.Depth.TheVariants.{Ten, Twelve, Sixteen}
use Rattle.esycc.specs.Esycc.{weighted}
use Rattle.esycc.specs.declared.Sums.{Sums}
use Rattle.esycc.specs.declared.Factors.{Factors}
use Rattle.esycc.specs.declared.Row.{Row}
use Rattle.esycc.specs.declared.Rows.{Rows}

-- a is to b as p to q.
pub record Ratio (a b p q : ℕ) : Type 0 where
  pub times : ℕ
  pub some : 1 ≤ times
  pub first-is : a ≡ times * p
  pub second_is : b ≡ times * q

-- Three sums that stand too high by low, as the codes of a pixel.
abbrev pub codes_at : ℕ → ℕ → Sums → Pixel
codes_at most low s = pixel (min most (s.first - low)) (min most (s.second - low)) (min most (s.third - low))

-- ---- from e-sRGB

abbrev pub unit : ℕ
unit = 2 ^ 46

abbrev pub lift : ℕ
lift = 65536

-- The greatest weighted sum, and the most by which 1,000 times a channel is above or below it.
abbrev pub most_sum : ℕ
most_sum = 65535000

abbrev pub most_difference : ℕ
most_difference = 58064010

-- The most that 1,000 offsets are, the greatest middle code, and the greatest divisor of a chroma.
abbrev pub most_low : ℕ
most_low = 24576000

abbrev pub most_middle : ℕ
most_middle = 32768

abbrev pub most_divisor : ℕ
most_divisor = 3544

-- The greatest code is to the scale as these two numbers.
abbrev pub top : Depth → ℕ
top Ten = 341
top Twelve = 273
top Sixteen = 257

abbrev pub bottom : Depth → ℕ
bottom Ten = 170
bottom Twelve = 136
bottom Sixteen = 128

-- Two numbers that can stand for the greatest code and the scale: at 16 bits they are 257 and 128, and the ratio is the greatest.
abbrev pub most_bottom : ℕ
most_bottom = 170

pub record Terms (p q : ℕ) : Type 0 where
  pub some : 1 ≤ q
  pub few : q ≤ most_bottom
  pub ratio : 128 * p ≤ 257 * q

-- The factors of luma and of chromas that have these divisors, where the greatest code is to the scale as p to q.
abbrev pub factors_by : ℕ → ℕ → ℕ → ℕ → Factors
factors_by p q blue red =
    record {
      luma = p * unit / (1000 * q);
      cb = p * unit / (blue * q);
      cr = p * unit / (red * q);
    }

-- Where a sum starts: origin is the code of 0, and half a unit rounds.
abbrev pub start : ℕ → ℕ → ℕ
start origin allowance = (lift + origin) * unit + unit / 2 + allowance

-- Luma counts from its offsets, low in all, and a chroma from as much below the weighted sum as a channel can be.
unfoldable pub luma_sum : ℕ → ℕ → ℕ → ℕ
luma_sum factor low sum = (start 0 most_sum - factor * low + factor * sum) / unit

unfoldable pub chroma_sum : ℕ → ℕ → ℕ → ℕ → ℕ
chroma_sum factor origin channel sum =
    (start origin most_difference - factor * most_difference + factor * (1000 * channel + most_difference - sum)) / unit

abbrev pub sums_by : Factors → ℕ → ℕ → Pixel → Sums
sums_by f origin low p =
    record {
      first = luma_sum f.luma low (weighted p);
      second = chroma_sum f.cb origin p.third (weighted p);
      third = chroma_sum f.cr origin p.first (weighted p);
    }

-- What the factors can be.
abbrev pub most_luma_factor : ℕ
most_luma_factor = 150000000000

abbrev pub most_chroma_factor : ℕ
most_chroma_factor = 60000000000

pub record Few (f : Factors) : Type 0 where
  pub luma : f.luma ≤ most_luma_factor
  pub cb : f.cb ≤ most_chroma_factor
  pub cr : f.cr ≤ most_chroma_factor

-- ---- to e-sRGB

abbrev pub back_unit : ℕ
back_unit = 2 ^ 38

abbrev pub back_lift : ℕ
back_lift = 2 ^ 24

abbrev pub back_allowance : ℕ
back_allowance = 2 ^ 19

abbrev pub back_start : ℕ
back_start = back_lift * back_unit + back_unit / 2 + back_allowance

-- The scale is to 10,000 times the greatest code as the first to twice the second.
abbrev pub back_top : Depth → ℕ
back_top Ten = 17
back_top Twelve = 17
back_top Sixteen = 16

abbrev pub back_half : Depth → ℕ
back_half Ten = 170500
back_half Twelve = 170625
back_half Sixteen = 160625

-- What p and q, and the grey of chroma, can be: of sYCC at 16 bits, where the ratio is the greatest, p is 128 and q 40,000.
abbrev pub most_top : ℕ
most_top = 128

pub record BackTerms (p q grey : ℕ) : Type 0 where
  pub some : 1 ≤ p
  pub few : p ≤ most_top
  pub ratio : 312 * p ≤ q
  pub middle : grey ≤ most_middle

-- So many ten-thousandths of a row of B9, in units, and the most that B9 has.
abbrev pub most_weight : ℕ
most_weight = 35440

abbrev pub share_by : ℕ → ℕ → ℕ → ℕ
share_by weight p q = weight * p * back_unit / q

-- The rows of B9. Chroma is counted from grey, which the start holds.
abbrev pub adding_row : ℕ → ℕ → ℕ → Row
adding_row cb cr grey = record { start = back_start - (cb * grey + cr * grey); shares = record { cb = cb; cr = cr } }

abbrev pub taking_row : ℕ → ℕ → ℕ → Row
taking_row cb cr grey = record { start = back_start + (cb * grey + cr * grey); shares = record { cb = cb; cr = cr } }

abbrev pub rows_by : ℕ → ℕ → ℕ → Rows
rows_by p q grey =
    record {
      luma = share_by 10000 p q;
      red = adding_row (share_by 0 p q) (share_by 28040 p q) grey;
      green = taking_row (share_by 6882 p q) (share_by 14282 p q) grey;
      blue = adding_row (share_by 35440 p q) (share_by 3 p q) grey;
    }

-- A start and luma with the shares of the chromas, in whole codes.
unfoldable pub with_chroma : ℕ → ℕ → ℕ → ℕ
with_chroma begin luma shares = (begin + luma + shares) / back_unit

unfoldable pub less_chroma : ℕ → ℕ → ℕ → ℕ
less_chroma begin luma shares = (begin + luma - shares) / back_unit

abbrev pub back_sums_by : Rows → ℕ → ℕ → ℕ → Sums
back_sums_by r y cb cr =
    record {
      first = with_chroma r.red.start (r.luma * y) (r.red.shares.cb * cb + r.red.shares.cr * cr);
      second = less_chroma r.green.start (r.luma * y) (r.green.shares.cb * cb + r.green.shares.cr * cr);
      third = with_chroma r.blue.start (r.luma * y) (r.blue.shares.cb * cb + r.blue.shares.cr * cr);
    }

-- What a luma and the chromas can be, and the numbers of a row.
abbrev pub most_luma : ℕ
most_luma = 262140

abbrev pub most_chroma : ℕ
most_chroma = 131070

-- Bounds of the shares: a share is at most its weight over 312, in units.
abbrev pub most_share : ℕ
most_share = 32000000000000

abbrev pub most_taken : ℕ
most_taken = 13000000000000

abbrev pub most_luma_share : ℕ
most_luma_share = 9000000000000

-- Rows whose sums have room.
pub record FewRow (r : Row) (most : ℕ) : Type 0 where
  pub cb : r.shares.cb ≤ most
  pub cr : r.shares.cr ≤ most

pub record FewRows (r : Rows) : Type 0 where
  pub luma : r.luma ≤ most_luma_share
  pub red : FewRow r.red most_share
  pub red-start : r.red.start ≤ back_start
  pub green : FewRow r.green most_taken
  pub green-start : back_start ≤ r.green.start
  pub green-most : r.green.start ≤ 2 * back_start
  pub blue : FewRow r.blue most_share
  pub blue-start : r.blue.start ≤ back_start
