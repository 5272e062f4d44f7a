-- Numbers as bytes, unsigned and little-endian (rules 3.1 and 7.1).
-- Assumes nothing.
use Rattle.std.specs.Prelude.{ℕ, zero, suc, ◌+◌, ◌*◌, ◌/◌, ◌%◌, ◌<◌, List, [], ◌∷◌, get_or}

-- The number that some bytes hold, the low byte first.
abbrev pub little_endian : List ℕ → ℕ
little_endian [] = 0
little_endian (low ∷ rest) = low + 256 * little_endian rest

-- The low k bytes of a number, the lowest first.
abbrev pub low_bytes : ℕ → ℕ → List ℕ
low_bytes zero v = []
low_bytes (suc k) v = v % 256 ∷ low_bytes k (v / 256)

-- A list of bytes, as every buffer is.
abbrev pub AllBytes : List ℕ → Type 0
AllBytes bytes = (i : ℕ) → get_or bytes i 0 < 256
