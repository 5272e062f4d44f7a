-- Codes that differ by one at most: what a channel keeps on its way through luma and chroma (rule 5.1).
-- Assumes nothing.
use Rattle.std.specs.Prelude.{ℕ, ◌+◌, ◌≤◌}

pub record Near (x y : ℕ) : Type 0 where
  pub low : x ≤ y + 1
  pub high : y ≤ x + 1
