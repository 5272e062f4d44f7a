-- How the code goes about the tint of a pixel: distance, luma and number of a tint are one number, of which the least is taken. The proofs
-- show that this comes to the tint of Choices.
-- Assumes nothing.
use Rattle.std.specs.Prelude.{ℕ, ◌+◌, ◌*◌, ◌^◌, ◌<◌, ◌≡◌, List, get_or}
use Rattle.samples.specs.declared.Pixel.{Pixel}
use Rattle.stickers.specs.Distances.{away, tint_luma}
use Rattle.stickers.specs.Choices.{tint_count}

-- What decides between tints that are as near: the luma of tint t and, behind it, its number.
unfoldable pub tie_rank : List ℕ → ℕ → ℕ
tie_rank tints t = tint_count * tint_luma tints t + t

-- So many of them there are: one for each luma of 12 bits and each number.
abbrev pub rank_span : ℕ
rank_span = tint_count * 2 ^ 12

-- The rank of tint t for a pixel: its distance and, behind it, what decides a tie.
unfoldable pub rank : List ℕ → Pixel → ℕ → ℕ
rank tints p t = rank_span * away tints p t + tie_rank tints t

-- What decides ties, worked out for all tints.
abbrev pub TieRanks : List ℕ → List ℕ → Type 0
TieRanks tints ranks = (t : ℕ) → t < tint_count → get_or ranks t 0 ≡ tie_rank tints t
