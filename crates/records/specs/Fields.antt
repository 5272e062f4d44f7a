-- Numbers of given widths in bytes, one after another (rule 7.1).
-- Assumes nothing.
use Rattle.std.specs.Prelude.{ℕ, ◌+◌, List, [], ◌∷◌, ◌++◌, take, drop}
use Rattle.numbers.specs.Bytes.{little_endian, low_bytes}

-- The bytes that numbers of these widths take.
abbrev pub size_of : List ℕ → ℕ
size_of [] = 0
size_of (width ∷ widths) = width + size_of widths

-- The numbers of these widths at the start of some bytes.
abbrev pub numbers_in : List ℕ → List ℕ → List ℕ
numbers_in [] bytes = []
numbers_in (width ∷ widths) bytes = little_endian (take width bytes) ∷ numbers_in widths (drop width bytes)

-- The bytes of numbers of these widths.
abbrev pub field_bytes : List ℕ → List ℕ → List ℕ
field_bytes [] numbers = []
field_bytes (width ∷ widths) [] = []
field_bytes (width ∷ widths) (number ∷ numbers) = low_bytes width number ++ field_bytes widths numbers
