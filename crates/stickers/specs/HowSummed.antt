-- How the code goes about the sums of all choices: in blocks of pixels, with a row of distances for each tint, and from choice to choice.
-- The proofs show that this comes to the sums of Choices.
-- Assumes nothing.
use Rattle.std.specs.Prelude.{ℕ, zero, suc, ◌+◌, ◌-◌, ◌*◌, ◌≤◌, ◌<◌, min, ◌≡◌, cond, List, ltb, length, get_or}
use Rattle.samples.specs.declared.Pixel.{Pixel}
use Rattle.samples.specs.Samples.{no_pixel}
use Rattle.esrgb.specs.Depths.{greatest}
use Rattle.stickers.specs.declared.Four.{Four}
use Rattle.stickers.specs.declared.Summed.{Summed}
use Rattle.stickers.specs.Distances.{away}
use Rattle.stickers.specs.Choices.{tint_count, tint_codes, four, choices, first_choice, best, looked_at}

-- Codes of 12 bits.
abbrev pub AllCodes : List ℕ → Type 0
AllCodes xs = (k : ℕ) → get_or xs k 0 ≤ greatest 12

abbrev pub TintCodes : List ℕ → Type 0
TintCodes tints = (k : ℕ) → k < tint_codes → get_or tints k 0 ≤ greatest 12

abbrev pub CodePixel : Pixel → Type 0
CodePixel p = (p.first ≤ greatest 12) × (p.second ≤ greatest 12) × (p.third ≤ greatest 12)

-- The number of the last tint.
abbrev pub last_tint : ℕ
last_tint = tint_count - 1

-- The choice after f: the last number that can grow does, and those behind it follow closely. The last choice stays.
unfoldable pub after : Four → Four
after f =
    cond (ltb f.fourth last_tint) (four f.first f.second f.third (f.fourth + 1))
    (cond (ltb f.third (last_tint - 1)) (four f.first f.second (f.third + 1) (f.third + 2))
    (cond (ltb f.second (last_tint - 2)) (four f.first (f.second + 1) (f.second + 2) (f.second + 3))
    (cond (ltb f.first (last_tint - 3)) (four (f.first + 1) (f.first + 2) (f.first + 3) (f.first + 4))
    f)))

-- A block: so many pixels at most, and for each tint a row of their distances.
abbrev pub block_size : ℕ
block_size = 256

abbrev pub entry_count : ℕ
entry_count = tint_count * block_size

-- No entry is greater, whatever it is: it has 16 bits.
abbrev pub most_entry : ℕ
most_entry = 65535

abbrev pub row_of : ℕ → ℕ
row_of t = block_size * t

abbrev pub entry : List ℕ → ℕ → ℕ → ℕ
entry rows t k = get_or rows (row_of t + k) 0

-- A pixel's distances in column k; all else is as it was.
pub record Column (tints : List ℕ) (p : Pixel) (k : ℕ) (before rows : List ℕ) : Type 0 where
  pub whole : length rows ≡ length before
  pub new : (t : ℕ) → t < tint_count → entry rows t k ≡ away tints p t
  pub same : (t j : ℕ) → j < block_size → (j ≡ k → ⊥) → entry rows t j ≡ entry before t j

-- The distances of `count` pixels from number `start` on.
abbrev pub BlockOf : List ℕ → List Pixel → ℕ → ℕ → List ℕ → Type 0
BlockOf tints ps start count rows = (t k : ℕ) → t < tint_count → k < count → entry rows t k ≡ away tints (get_or ps (start + k) no_pixel) t

-- The least of four rows, summed over their first entries. A row is given by where it starts.
unfoldable pub row_sum : List ℕ → ℕ → ℕ → ℕ → ℕ → ℕ → ℕ
row_sum rows a b c d zero = 0
row_sum rows a b c d (suc k) =
    row_sum rows a b c d k + min (min (min (get_or rows (a + k) 0) (get_or rows (b + k) 0)) (get_or rows (c + k) 0)) (get_or rows (d + k) 0)

abbrev pub four_sum : List ℕ → Four → ℕ → ℕ
four_sum rows f count = row_sum rows (row_of f.first) (row_of f.second) (row_of f.third) (row_of f.fourth) count

-- A block's sums added to those of the first choices.
pub record Added (rows : List ℕ) (count limit : ℕ) (before sums : List ℕ) : Type 0 where
  pub whole : length sums ≡ length before
  pub more : (k : ℕ) → k < limit → get_or sums k 0 ≡ get_or before k 0 + four_sum rows (get_or choices k first_choice) count
  pub few : (k : ℕ) → k < limit → four_sum rows (get_or choices k first_choice) count ≤ most_entry * count

-- Numbers that are the sums of the first choices, by some rule of what a choice's sum is.
abbrev pub SumsOf : (Four → ℕ) → ℕ → List ℕ → Type 0
SumsOf sum limit sums = (k : ℕ) → k < limit → get_or sums k 0 ≡ sum (get_or choices k first_choice)

-- The best of the first choices, with its sum.
pub record BestOf (sum : Four → ℕ) (limit : ℕ) (r : Summed) : Type 0 where
  pub four : r.four ≡ best sum (looked_at limit)
  pub summed : r.sum ≡ sum r.four
