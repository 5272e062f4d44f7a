-- Samples and pixels in a buffer (rules, section 3).
-- Assumes nothing.
use Rattle.std.specs.Prelude.{ℕ, ◌*◌, ◌/◌, Bool, true, false, not, List, [], ◌∷◌, ◌++◌, eqb}
use Rattle.numbers.specs.Threes.{threes}
use Rattle.numbers.specs.Bytes.{little_endian, low_bytes}
use Rattle.samples.specs.declared.Pixel.{Pixel}

-- Rule 3.1: samples of 8 bits are one byte wide, all others two.
abbrev pub is_wide : ℕ → Bool
is_wide bits = not (eqb bits 8)

-- Rule 3.3: where the k-th sample starts.
abbrev pub place : Bool → ℕ → ℕ
place true k = 2 * k
place false k = k

-- How many whole samples some bytes hold.
abbrev pub sample_count : Bool → ℕ → ℕ
sample_count true bytes = bytes / 2
sample_count false bytes = bytes

-- Rule 3.1: the bytes of a sample.
abbrev pub sample_size : Bool → ℕ
sample_size wide = place wide 1

-- Rule 3.2: the bytes of a pixel.
abbrev pub pixel_size : Bool → ℕ
pixel_size wide = place wide 3

-- The samples of a buffer: its bytes, or its bytes two by two, low byte first (rule 3.1).
abbrev pub two_by_two : List ℕ → List ℕ
two_by_two [] = []
two_by_two (low ∷ []) = []
two_by_two (low ∷ high ∷ rest) = little_endian (low ∷ high ∷ []) ∷ two_by_two rest

abbrev pub samples_of : Bool → List ℕ → List ℕ
samples_of true bytes = two_by_two bytes
samples_of false bytes = bytes

-- The bytes of a sample, and of samples one after another.
abbrev pub sample_bytes : Bool → ℕ → List ℕ
sample_bytes true x = low_bytes 2 x
sample_bytes false x = low_bytes 1 x

abbrev pub bytes_of : Bool → List ℕ → List ℕ
bytes_of wide [] = []
bytes_of wide (x ∷ xs) = sample_bytes wide x ++ bytes_of wide xs

-- Rule 3.2: three samples make a pixel.
abbrev pub pixel : ℕ → ℕ → ℕ → Pixel
pixel a b c = record { first = a; second = b; third = c }

-- What stands for a pixel behind the last.
abbrev pub no_pixel : Pixel
no_pixel = pixel 0 0 0

abbrev pub pixels_of : List ℕ → List Pixel
pixels_of xs = threes pixel xs

abbrev pub samples_in : List Pixel → List ℕ
samples_in [] = []
samples_in (p ∷ ps) = p.first ∷ p.second ∷ p.third ∷ samples_in ps

-- A buffer read as pixels, and pixels written as a buffer.
abbrev pub read : Bool → List ℕ → List Pixel
read wide bytes = pixels_of (samples_of wide bytes)

abbrev pub write : Bool → List Pixel → List ℕ
write wide ps = bytes_of wide (samples_in ps)
