-- The search for a level: a window of levels that each look at a threshold narrows.
-- Assumes nothing.
use Prim.Native.Nat.{ℕ, zero, suc, ◌+◌, ◌-◌, ◌*◌, ◌/◌, ◌^◌, ◌<◌, ◌≤◌, min}
use mathlib.Core.Path.{◌≡◌, refl, ap, ◌∙◌}
use mathlib.Core.Bool.{Bool, true, false, cond}
use mathlib.Core.List.{List, [], ◌∷◌}
use native.Mathlib.Omega.{arith}
use native.Mathlib.Nat.{mul-one, mul-zero}
use borrow.Author.Tests.{leb-true, leb-false}
use lib.Dec.{leb}
use lib.ListN.{length, get_or}
use mir.Val.{bool_byte}
use Rattle.esrgb.specs.Depths.{step, scale}
use Rattle.esrgb.proofs.Scale.{Scale}
use Rattle.transfer.specs.Level.{level_of_light}
use Rattle.transfer.specs.HowTabled.{levels, few_levels, start_of, ThresholdTable, StartTable}

-- The level looked for: that of the light, at most the greatest of a code.
abbrev pub found : ℕ → ℕ → ℕ
found n light = min (level_of_light (scale n) light) (levels n - 1)

-- What is looked for is from level on, and below level + width.
pub record Window (n light level width : ℕ) : Type 0 where
  pub low : level ≤ found n light
  pub high : found n light < level + width
  pub inside : level + width ≤ levels n

-- What each turn looks across: half of what is left.
abbrev pub halves : List ℕ
halves = 4 ∷ 2 ∷ 1 ∷ []

module _ (n : ℕ) (s : Scale n) (thresholds : List ℕ) (table : ThresholdTable n thresholds) (light : ℕ) where
  -- How many thresholds there are, as the product by which the code clips the start.
  pub long : length thresholds ≡ 320 * step n
  long = omega (arith, table.long)

  -- A look at the threshold of level + half: the levels before it go, or those from it on.
  look_by :
      (level width half at : ℕ) → Window n light level width → 2 * half ≤ width → at ≡ level + half
      → (b : Bool) → leb (get_or thresholds at 0) light ≡ b → Window n light (level + cond b half 0) (width - half)
  look_by level width half at w h i true t =
      let from = (table.at at (omega arith)).from light (leb-true _ _ t) in
      record { low = omega arith; high = omega arith; inside = omega arith }
  look_by level width half at w h i false t =
      let below = (table.at at (omega arith)).below light (leb-false _ _ t) in
      record { low = omega arith; high = omega arith; inside = omega arith }

  pub look :
      (level width half at passed : ℕ) → Window n light level width → 2 * half ≤ width → at ≡ level + half
      → passed ≡ cond (leb (get_or thresholds at 0) light) half 0 → Window n light (level + passed) (width - half)
  look level width half at passed w h i p = rw p (look_by level width half at w h i (leb (get_or thresholds at 0) light) refl)

  -- The start leaves few levels.
  window_from :
      (level : ℕ) → level ≤ level_of_light (scale n) light → found n light < level + few_levels → level ≤ 320 * step n - few_levels
      → Window n light level few_levels
  window_from level low high last = record { low = omega arith; high = omega arith; inside = omega arith }

  pub from_start : (starts : List ℕ) → StartTable n starts → (level : ℕ) → level ≡ start_of (step n) starts light → Window n light level few_levels
  from_start starts t level p = rw p (window_from (start_of (step n) starts light) (t.low light) (t.high light) (omega arith))

  all_or_none : (half : ℕ) (b : Bool) → half * bool_byte b ≡ cond b half 0
  all_or_none half true = mul-one half
  all_or_none half false = mul-zero half

  -- The three turns.
  pub turn :
      (level i reached : ℕ) → i < 3 → Window n light level (few_levels / 2 ^ i)
      → reached ≡ bool_byte (leb (get_or thresholds (level + get_or halves i 0) 0) light)
      → Window n light (level + get_or halves i 0 * reached) (few_levels / 2 ^ (i + 1))
  turn level zero reached h w r = look level 8 4 _ _ w (omega arith) refl (ap (λ (x : ℕ). 4 * x) r ∙ all_or_none 4 _)
  turn level (suc zero) reached h w r = look level 4 2 _ _ w (omega arith) refl (ap (λ (x : ℕ). 2 * x) r ∙ all_or_none 2 _)
  turn level (suc (suc zero)) reached h w r = look level 2 1 _ _ w (omega arith) refl (ap (λ (x : ℕ). 1 * x) r ∙ all_or_none 1 _)
  turn level (suc (suc (suc i))) reached h w r = absurd (omega arith)
