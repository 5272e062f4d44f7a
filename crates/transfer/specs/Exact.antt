-- How near light at 16 bits is to the exact light (rule 6.9; PIMA 7667, equations 6a to 6c), in whole numbers.
-- Assumes nothing.
use Rattle.std.specs.Prelude.{ℕ, ◌+◌, ◌-◌, ◌*◌, ◌^◌, ◌<◌, ◌≡◌, Bool, true, cond, leb, ltb, nat_abs}
use Rattle.esrgb.specs.Depths.{offset, scale}
use Rattle.transfer.specs.Light.{low_level, power_side, number_side, light_of_level, per_level, light_at, level_size, signed, light_of_code}

-- Below, S is a scale, v the size of a level, and x its exact light in millionths: 10^8 × v / (1292 S) on the straight part of the curve,
-- and the power beyond. x is not rounded, and every comparison is multiplied out to whole numbers.

-- Is x at least q?
unfoldable pub at_least : ℕ → ℕ → ℕ → Bool
at_least S v q = cond (low_level S v) (leb (1292 * S * q) (10 ^ 8 * v)) (leb (number_side S q) (power_side S v 1))

-- Is x at most q?
unfoldable pub at_most : ℕ → ℕ → ℕ → Bool
at_most S v q = cond (low_level S v) (leb (10 ^ 8 * v) (1292 * S * q)) (leb (power_side S v 1) (number_side S q))

-- The size q of a light is within m millionths of x. A difference of ℕ stops at 0, and x is never less.
pub record Within (m S v q : ℕ) : Type 0 where
  pub low : at_least S v (q - m) ≡ true
  pub high : at_most S v (q + m) ≡ true

-- The light of a code is within m millionths of the exact light of its level: in size, and it has the level's sign.
pub record NearExact (m n code : ℕ) : Type 0 where
  pub size : Within m (scale n) (level_size n code) (nat_abs (light_of_code n code))
  pub sign : light_of_code n code ≡ signed (ltb code (offset n)) (nat_abs (light_of_code n code))

-- Rule 6.9: so many millionths.
abbrev pub most_apart : ℕ
most_apart = 2

-- Rule 6.9: every code of 16 bits is that near. One that is a 12-bit code times 16 has that code's light, and a level that is a 12-bit level
-- times 16 has what rule 6.2 gives at 16 bits.
pub record LightAtSixteen : Type 0 where
  pub near : (code : ℕ) → code < 2 ^ 16 → NearExact most_apart 16 code
  pub same_code : (code : ℕ) → light_of_code 16 (per_level * code) ≡ light_of_code 12 code
  pub same_rule : (v : ℕ) → light_at 16 (per_level * v) ≡ light_of_level (scale 16) (per_level * v)
