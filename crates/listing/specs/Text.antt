-- Text in bytes: numbers in decimal (rule 9.4), and text written into a buffer.
-- Assumes nothing.
use Rattle.std.specs.Prelude.{ℕ, zero, suc, ◌+◌, ◌/◌, ◌%◌, cond, List, [], ◌∷◌, ◌++◌, length, set, ltb}

-- The digits of a number, of which it has at most so many.
unfoldable pub digits : ℕ → ℕ → List ℕ
digits zero n = []
digits (suc most) n = cond (ltb n 10) ((48 + n) ∷ []) (digits most (n / 10) ++ ((48 + n % 10) ∷ []))

-- A number in decimal: it has no more digits than one more than itself.
unfoldable pub decimal : ℕ → List ℕ
decimal n = digits (suc n) n

-- A buffer and the place behind the text written to it so far.
pub record Buffer : Type 0 where
  pub bytes : List ℕ
  pub at : ℕ

-- The buffer with one byte more, or as it is where it is full.
abbrev pub put : Buffer → ℕ → Buffer
put b x = cond (ltb b.at (length b.bytes)) (record { bytes = set b.bytes b.at x; at = b.at + 1 }) b

-- The buffer with a text more: what does not fit is left out.
unfoldable pub put_text : Buffer → List ℕ → Buffer
put_text b [] = b
put_text b (x ∷ xs) = put_text (put b x) xs
