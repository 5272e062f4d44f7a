-- How many samples and pixels a buffer has, and where each stands.
-- Assumes nothing.
use Prim.Native.Nat.{ℕ, zero, suc, ◌+◌, ◌*◌, ◌/◌, ◌≤◌, ◌<◌}
use mathlib.Core.Path.{◌≡◌, refl}
use mathlib.Core.Bool.{Bool, true, false}
use mathlib.Core.List.{List, [], ◌∷◌}
use native.Mathlib.Omega.{arith}
use lib.ListN.{length, get_or, get_or-eq_default}
use Rattle.numbers.specs.Bytes.{little_endian}
use Rattle.numbers.proofs.Threes.{length-threes, three_at}
use Rattle.samples.specs.Samples.{sample_count, pixel_size, samples_of, two_by_two, pixel, no_pixel, pixels_of}

pub length_two : (bytes : List ℕ) → length (two_by_two bytes) ≡ length bytes / 2
length_two [] = refl
length_two (low ∷ []) = refl
length_two (low ∷ high ∷ rest) = omega (arith, length_two rest)

pub length_samples : (wide : Bool) (bytes : List ℕ) → length (samples_of wide bytes) ≡ sample_count wide (length bytes)
length_samples true bytes = length_two bytes
length_samples false bytes = refl

pub behind : (wide : Bool) (bytes : List ℕ) (k : ℕ) → sample_count wide (length bytes) ≤ k → get_or (samples_of wide bytes) k 0 ≡ 0
behind wide bytes k h = get_or-eq_default (samples_of wide bytes) 0 (rw (length_samples wide bytes) h)

pub length-pixels : (xs : List ℕ) → length (pixels_of xs) ≡ length xs / 3
length-pixels xs = length-threes pixel xs

pub two_at : (bytes : List ℕ) (k : ℕ) → 2 * k + 1 < length bytes
    → get_or (two_by_two bytes) k 0 ≡ little_endian (get_or bytes (2 * k) 0 ∷ get_or bytes (2 * k + 1) 0 ∷ [])
two_at [] k h = absurd (omega arith)
two_at (low ∷ []) k h = absurd (omega arith)
two_at (low ∷ high ∷ rest) zero h = refl
two_at (low ∷ high ∷ rest) (suc k) h =
    let e : 2 * suc k ≡ suc (suc (2 * k)) = omega arith in
    let f : 2 * suc k + 1 ≡ suc (suc (2 * k + 1)) = omega arith in
    rw (f, e) (two_at rest k (omega arith))

-- There are no more samples than bytes, and those of a pixel are among them.
pub no_more : (wide : Bool) (bytes : ℕ) → sample_count wide bytes ≤ bytes
no_more true bytes = omega arith
no_more false bytes = omega arith

pub pixel_held : (wide : Bool) (bytes i : ℕ) → i < bytes / pixel_size wide → 3 * i + 2 < sample_count wide bytes
pixel_held true bytes i h = omega arith
pixel_held false bytes i h = omega arith

pub pixel-at :
    (xs : List ℕ) (j : ℕ) → 3 * j + 2 < length xs
    → get_or (pixels_of xs) j no_pixel ≡ pixel (get_or xs (3 * j) 0) (get_or xs (3 * j + 1) 0) (get_or xs (3 * j + 2) 0)
pixel-at xs j h = three_at pixel xs j no_pixel h
