-- How the code spares every power and most of a search: what its constant tables hold.
-- Assumes nothing.
use Rattle.std.specs.Prelude.{ℕ, ◌+◌, ◌-◌, ◌*◌, ◌/◌, ◌^◌, ◌≤◌, ◌<◌, min, ◌≡◌, List, length, get_or}
use Rattle.esrgb.specs.Depths.{offset, step, scale}
use Rattle.transfer.specs.Light.{light_of_level}
use Rattle.transfer.specs.Level.{level_of_light}

-- How many levels from 0 up the codes of a depth have.
abbrev pub levels : ℕ → ℕ
levels n = 2 ^ n - offset n

-- Rule 6.6: the light of each 12-bit level from 0 up, and of the level after them, where the last straight line of rule 6.8 ends.
pub record LightTable (lights : List ℕ) : Type 0 where
  pub at : (v : ℕ) → v ≤ levels 12 → get_or lights v 0 ≡ light_of_level (scale 12) v

-- t is the threshold of level w: the least light whose level is at least w.
pub record Threshold (S w t : ℕ) : Type 0 where
  pub from : (q : ℕ) → t ≤ q → w ≤ level_of_light S q
  pub below : (q : ℕ) → q < t → level_of_light S q < w

-- The thresholds of the levels of depth n.
pub record ThresholdTable (n : ℕ) (thresholds : List ℕ) : Type 0 where
  pub long : length thresholds ≡ levels n
  pub at : (w : ℕ) → w < levels n → Threshold (scale n) w (get_or thresholds w 0)

-- Lights in groups, 256 to a group up to 131,072 and 2,048 to a group from there on. The last group has no end.
abbrev pub last_group : ℕ
last_group = 1267

abbrev pub group_of : ℕ → ℕ
group_of q = min (min (q / 256) (448 + q / 2048)) last_group

-- How many levels a search has left when it starts.
abbrev pub few_levels : ℕ
few_levels = 8

-- Where it starts for light q, at the depth with step k, which has 320 k levels from 0 up: at the group's 12-bit level, in levels of
-- the depth, or so few before their end.
abbrev pub start_of : ℕ → List ℕ → ℕ → ℕ
start_of k starts q = min (get_or starts (group_of q) 0 * k / step 12) (320 * k - few_levels)

-- The level of every light, clipped to those of the codes, is among the few from its start on.
pub record StartTable (n : ℕ) (starts : List ℕ) : Type 0 where
  pub low : (q : ℕ) → start_of (step n) starts q ≤ level_of_light (scale n) q
  pub high : (q : ℕ) → min (level_of_light (scale n) q) (levels n - 1) < start_of (step n) starts q + few_levels
