-- Pixels in a buffer: how many there are, that those written are read back, and that a buffer in two parts of whole pixels is read in two.
-- Assumes nothing.
use Prim.Native.Nat.{ℕ, zero, suc, ◌*◌, ◌/◌, ◌%◌, ◌<◌}
use mathlib.Core.Path.{◌≡◌, refl, sym, ap, ◌∙◌}
use mathlib.Core.Bool.{Bool, true, false}
use mathlib.Core.List.{List, [], ◌∷◌, ◌++◌}
use native.Mathlib.Omega.{arith}
use native.Mathlib.Nat.{mod-eq_of_lt}
use lib.ListN.{length, get_or}
use lib.Seq.{ext_get_or}
use Rattle.numbers.proofs.Bytes.{held}
use Rattle.samples.specs.declared.Pixel.{Pixel}
use Rattle.samples.specs.Samples.{place, pixel_size, two_by_two, samples_of, bytes_of, pixel, pixels_of, samples_in, read, write}
use Rattle.samples.proofs.Reading.{length_two, length_samples, length-pixels}

-- ---- lengths
pub length-read : (wide : Bool) (bytes : List ℕ) → length (read wide bytes) ≡ length bytes / pixel_size wide
length-read true bytes = omega (arith, length-pixels (samples_of true bytes), length_samples true bytes)
length-read false bytes = length-pixels bytes

length-bytes : (wide : Bool) (xs : List ℕ) → length (bytes_of wide xs) ≡ place wide (length xs)
length-bytes true [] = refl
length-bytes true (x ∷ xs) = omega (arith, length-bytes true xs)
length-bytes false [] = refl
length-bytes false (x ∷ xs) = omega (arith, length-bytes false xs)

length-samples_in : (ps : List Pixel) → length (samples_in ps) ≡ 3 * length ps
length-samples_in [] = refl
length-samples_in (p ∷ ps) = omega (arith, length-samples_in ps)

pub length-write : (wide : Bool) (ps : List Pixel) → length (write wide ps) ≡ pixel_size wide * length ps
length-write true ps = omega (arith, length-bytes true (samples_in ps), length-samples_in ps)
length-write false ps = omega (arith, length-bytes false (samples_in ps), length-samples_in ps)

pub pixels_in_size : (wide : Bool) (count : ℕ) → pixel_size wide * count / pixel_size wide ≡ count
pixels_in_size true count = omega arith
pixels_in_size false count = omega arith

-- ---- what is written is read back, if it fits
-- Samples of two bytes are below this, or those of one.
abbrev pub limit : Bool → ℕ
limit true = 65536
limit false = 256

abbrev pub Fits : Bool → Pixel → Type 0
Fits wide p = (p.first < limit wide) × (p.second < limit wide) × (p.third < limit wide)

pub written_at :
    (wide : Bool) (ps : List Pixel) (j : ℕ) (d e : Pixel) → j < length ps → Fits wide (get_or ps j d)
    → get_or (read wide (write wide ps)) j e ≡ get_or ps j d
written_at wide [] j d e h f = absurd (omega arith)
written_at true (p ∷ ps) zero d e h f = λ i. pixel (held 2 p.first f.0 i) (held 2 p.second f.1 i) (held 2 p.third f.2 i)
written_at false (p ∷ ps) zero d e h f = λ i. pixel (mod-eq_of_lt f.0 i) (mod-eq_of_lt f.1 i) (mod-eq_of_lt f.2 i)
written_at true (p ∷ ps) (suc j) d e h f = written_at true ps j d e (omega arith) f
written_at false (p ∷ ps) (suc j) d e h f = written_at false ps j d e (omega arith) f

-- ---- a buffer of whole pixels, one byte a sample, is its pixels
samples_of_pixels : (xs : List ℕ) → length xs % 3 ≡ 0 → samples_in (pixels_of xs) ≡ xs
samples_of_pixels [] h = refl
samples_of_pixels (a ∷ []) h = absurd (omega arith)
samples_of_pixels (a ∷ b ∷ []) h = absurd (omega arith)
samples_of_pixels (a ∷ b ∷ c ∷ rest) h = cc (samples_of_pixels rest (omega arith))

pub same-pixels :
    (d : Pixel) (xs ys : List ℕ) → length xs % 3 ≡ 0 → length xs ≡ length ys
    → ((j : ℕ) → j < length xs / 3 → get_or (read false xs) j d ≡ get_or (read false ys) j d) → xs ≡ ys
same-pixels d xs ys whole size h =
    sym (samples_of_pixels xs whole)
    ∙ ap samples_in (ext_get_or d (pixels_of xs) (pixels_of ys) (simp (length-pixels, size)) (λ j i. h j (rw length-pixels at i)))
    ∙ samples_of_pixels ys (omega arith)

-- ---- buffers behind one another, of wide samples
pub two_append : (xs ys : List ℕ) → length xs % 2 ≡ 0 → two_by_two (xs ++ ys) ≡ two_by_two xs ++ two_by_two ys
two_append [] ys h = refl
two_append (low ∷ []) ys h = absurd (omega arith)
two_append (low ∷ high ∷ rest) ys h = rw (two_append rest ys (omega arith))

pixels-append : (xs ys : List ℕ) → length xs % 3 ≡ 0 → pixels_of (xs ++ ys) ≡ pixels_of xs ++ pixels_of ys
pixels-append [] ys h = refl
pixels-append (a ∷ []) ys h = absurd (omega arith)
pixels-append (a ∷ b ∷ []) ys h = absurd (omega arith)
pixels-append (a ∷ b ∷ c ∷ rest) ys h = rw (pixels-append rest ys (omega arith))

pub read-append : (xs ys : List ℕ) → length xs % 6 ≡ 0 → read true (xs ++ ys) ≡ read true xs ++ read true ys
read-append xs ys h = rw (two_append xs ys (omega arith)) (pixels-append (two_by_two xs) (two_by_two ys) (omega (arith, length_two xs)))
