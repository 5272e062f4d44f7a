-- One sample from code to light (rules 6.2, 6.4, 6.5 and 6.8; PIMA 7667, equations 5 and 6a to 6c).
-- Assumes nothing.
use Rattle.std.specs.Prelude.{ℕ, ◌+◌, ◌-◌, ◌*◌, ◌^◌, ◌/◌, ◌%◌, Bool, cond, eqb, leb, ltb, ℤ, pos, neg_ℤ}
use Rattle.numbers.specs.Rounding.{nearest}
use Rattle.esrgb.specs.Depths.{offset, scale}
use Rattle.transfer.specs.Search.{last_passing}

-- Below, S is a scale, v the size of a level, and u is v / S (equation 5). Comparisons are multiplied out to whole numbers.

-- The straight part of the curve near black, up to u = 0.04045 (equation 6b).
abbrev pub low_level : ℕ → ℕ → Bool
low_level S v = leb (100000 * v) (4045 * S)

-- Beyond it (6a, 6c) the light is x = 1,000,000 × ((u + 0.055) / 1.055)^(12/5). Rule 6.5: x is compared with p / d by the fifth powers of
-- d × x and p, and the fraction is written (200 v + 11 S) / (211 S). These are the two sides, both times (211 S)^12.
abbrev pub power_side : ℕ → ℕ → ℕ → ℕ
power_side S v d = (d * 10 ^ 6) ^ 5 * (200 * v + 11 * S) ^ 12

abbrev pub number_side : ℕ → ℕ → ℕ
number_side S p = p ^ 5 * (211 * S) ^ 12

-- Is x at least q − 1/2? A search ends at q = 1, so that 2 q − 1 is never cut off at 0.
unfoldable pub reaches_light : ℕ → ℕ → ℕ → Bool
reaches_light S v q = leb (number_side S (2 * q - 1)) (power_side S v 2)

-- Rule 6.1: the greatest number of 32 bits with a sign.
abbrev pub greatest_light : ℕ
greatest_light = 2 ^ 31 - 1

-- Rule 6.2, of sizes: the light of a level. Ties go upward, which is away from zero (rule 6.4), so that the nearest to x is the last q
-- with q − 1/2 ≤ x.
unfoldable pub light_of_level : ℕ → ℕ → ℕ
light_of_level S v = cond (low_level S v) (nearest (10 ^ 8 * v) (1292 * S)) (last_passing (reaches_light S v) greatest_light)

-- Rule 6.8: how many 16-bit levels make one of 12 bits.
abbrev pub per_level : ℕ
per_level = 16

-- On the straight line from the light x of a 12-bit level to the light y of the next, j sixteenths along. Ties go upward, which is away
-- from zero (rule 6.4).
abbrev pub between : ℕ → ℕ → ℕ → ℕ
between x y j = nearest (x * (per_level - j) + y * j) per_level

-- Rule 6.8, of sizes: the light of a 16-bit level.
unfoldable pub light_between : ℕ → ℕ
light_between v = between (light_of_level (scale 12) (v / per_level)) (light_of_level (scale 12) (v / per_level + 1)) (v % per_level)

-- The light of a level of depth n, of sizes: by rule 6.8 at 16 bits, and by 6.2 at 10 and 12.
abbrev pub light_at : ℕ → ℕ → ℕ
light_at n v = cond (eqb n 16) (light_between v) (light_of_level (scale n) v)

-- Rule 1.5: the size of a code's level. One of the two differences is 0.
abbrev pub level_size : ℕ → ℕ → ℕ
level_size n code = (code - offset n) + (offset n - code)

-- A size with a sign.
abbrev pub signed : Bool → ℕ → ℤ
signed negative size = cond negative (neg_ℤ (pos size)) (pos size)

-- With the sign of the level: the light of a code.
unfoldable pub light_of_code : ℕ → ℕ → ℤ
light_of_code n code = signed (ltb code (offset n)) (light_at n (level_size n code))
