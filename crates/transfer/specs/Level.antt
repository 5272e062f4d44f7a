-- One sample from light to code (rules 6.1 and 6.3 to 6.5; PIMA 7667, equations 2a to 2c, 3 and 4).
-- Assumes nothing.
use Rattle.std.specs.Prelude.{ℕ, suc, ◌+◌, ◌-◌, ◌*◌, ◌^◌, min, Bool, cond, ◌||◌, eqb, leb, ℤ, pos, negsuc}
use Rattle.numbers.specs.Rounding.{nearest}
use Rattle.esrgb.specs.Depths.{greatest, offset, scale}
use Rattle.transfer.specs.Search.{last_passing}

-- Rule 6.1: the depths that light has codes at.
abbrev pub offers_codes : ℕ → Bool
offers_codes n = eqb n 10 || eqb n 12

-- Below, S is a scale, q the size of a light, and y is q / 1,000,000.

-- The straight part of the curve near black, up to y = 0.0031308 (equation 2b).
abbrev pub low_light : ℕ → Bool
low_light q = leb (10 * q) 31308

-- Beyond it (2a, 2c): is S × (1.055 × y^(5/12) − 0.055) at least w − 1/2? Times 200, that compares 211 × S × y^(5/12) with
-- 200 × w + 11 × S − 100, and then both sides are taken to the twelfth power.
unfoldable pub reaches_level : ℕ → ℕ → ℕ → Bool
reaches_level S q w = leb ((200 * w + 11 * S - 100) ^ 12 * (10 ^ 6) ^ 5) (q ^ 5 * (211 * S) ^ 12)

-- Where the search for a level begins: no light of 32 bits has a level of 32 × S.
abbrev pub beyond_levels : ℕ → ℕ
beyond_levels S = 32 * S

-- Rule 6.3, of sizes: the level of a light. Ties go upward, which is away from zero (rule 6.4).
unfoldable pub level_of_light : ℕ → ℕ → ℕ
level_of_light S q = cond (low_light q) (nearest (1292 * q * S) (10 ^ 8)) (last_passing (reaches_level S q) (beyond_levels S))

-- Rule 6.3, with the sign: the offset plus or minus the level, clipped to the codes. A difference of ℕ stops at 0, which clips below;
-- negsuc k is −(k + 1).
unfoldable pub code_of_light : ℕ → ℤ → ℕ
code_of_light n (pos q) = min (greatest n) (offset n + level_of_light (scale n) q)
code_of_light n (negsuc k) = offset n - level_of_light (scale n) (suc k)
