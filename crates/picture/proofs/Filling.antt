-- What the loops have written from the front of the destination, one sample or one pixel more at each turn.
-- Assumes nothing.
use Prim.Native.Nat.{ℕ, suc, ◌+◌, ◌*◌, ◌/◌, ◌≤◌, ◌<◌}
use mathlib.Core.Path.{◌≡◌, refl, sym, ap, ◌∙◌}
use mathlib.Core.Bool.{Bool, true, false}
use mathlib.Core.List.{List, [], ◌∷◌, ◌++◌, map}
use native.Mathlib.Omega.{arith}
use lib.ListN.{length, get_or, take, drop}
use Rattle.numbers.proofs.Writing.{Written, written_more, written_all}
use Rattle.samples.specs.declared.Pixel.{Pixel}
use Rattle.samples.specs.Samples.{place, pixel_size, sample_count, samples_of, sample_bytes, bytes_of, no_pixel, read, write}
use Rattle.samples.specs.Faults.{Exact}
use Rattle.samples.proofs.Reading.{length_two, length_samples}
use Rattle.samples.proofs.Buffers.{length-read}

-- ---- places
place_mono : (wide : Bool) {k n : ℕ} → k ≤ n → place wide k ≤ place wide n
place_mono true h = omega arith
place_mono false h = omega arith

-- ---- lengths that are exact: room for the samples of the source, and for its pixels
pub room_samples :
    (from to : Bool) (src dst : List ℕ) → Exact from to (length src) (length dst) → length dst ≡ place to (length (samples_of from src))
room_samples true true src dst e = omega (arith, e, length_two src)
room_samples true false src dst e = omega (arith, e, length_two src)
room_samples false true src dst e = omega (arith, e)
room_samples false false src dst e = omega (arith, e)

pixels_end : (wide : Bool) (n : ℕ) → pixel_size wide * n ≡ place wide (3 * n)
pixels_end true n = omega arith
pixels_end false n = omega arith

pub room-pixels :
    (from to : Bool) (src dst : List ℕ) → length dst ≡ pixel_size to * (length src / pixel_size from) → length dst ≡ place to (3 * length (read from src))
room-pixels from to src dst e = rw (length-read from src) (e ∙ pixels_end to (length src / pixel_size from))

pub pixel_within :
    (from to : Bool) (src dst after : List ℕ) (i : ℕ) → Exact from to (length src) (length dst) → length after ≡ length dst
    → i < length src / pixel_size from → place to (3 * (i + 1)) ≤ length after
pixel_within from to src dst after i e kept h =
    omega (arith, room-pixels from to src dst e.room-is, place_mono to {k = 3 * (i + 1)} {n = 3 * length (read from src)} (omega (arith, length-read from src)))

-- ---- samples, each by f
abbrev pub bytes_by : Bool → (ℕ → ℕ) → List ℕ → List ℕ
bytes_by wide f xs = bytes_of wide (map f xs)

pub none_written : (wide : Bool) (f : ℕ → ℕ) (xs dst : List ℕ) → Written (bytes_by wide f) xs dst (place wide 0) 0
none_written true f xs dst = refl
none_written false f xs dst = refl

pub one_more :
    (from to : Bool) (f : ℕ → ℕ) (src dst after : List ℕ) (k x : ℕ) → k < sample_count from (length src) → x ≡ f (get_or (samples_of from src) k 0)
    → take (place to (k + 1)) after ≡ take (place to k) dst ++ sample_bytes to x
    → Written (bytes_by to f) (samples_of from src) dst (place to k) k → Written (bytes_by to f) (samples_of from src) after (place to (k + 1)) (k + 1)
one_more from to f src dst after k x h e put =
    let xs = samples_of from src in
    written_more (bytes_by to f) xs 0 k (place to k) (place to (k + 1)) dst after (sample_bytes to x) (rw (length_samples from src) h) put
    (ap (λ y. sample_bytes to y ++ bytes_by to f (drop (suc k) xs)) (sym e))

-- behind the last sample, all is written
pub samples_done :
    (from to : Bool) (f : ℕ → ℕ) (src dst after : List ℕ) (k : ℕ) → Exact from to (length src) (length dst) → length after ≡ length dst
    → sample_count from (length src) ≤ k → Written (bytes_by to f) (samples_of from src) after (place to k) k
    → after ≡ bytes_by to f (samples_of from src)
samples_done from to f src dst after k e kept h =
    let end : length (samples_of from src) ≤ k = omega (arith, length_samples from src) in
    written_all (bytes_by to f) (samples_of from src) after (place to k) k refl end
    (omega (arith, room_samples from to src dst e, place_mono to end))

-- ---- pixels, each by f
abbrev pub pixels_by : Bool → (Pixel → Pixel) → List Pixel → List ℕ
pixels_by wide f ps = write wide (map f ps)

pub no_pixel_written : (wide : Bool) (f : Pixel → Pixel) (ps : List Pixel) (dst : List ℕ) → Written (pixels_by wide f) ps dst (place wide (3 * 0)) 0
no_pixel_written true f ps dst = refl
no_pixel_written false f ps dst = refl

write-more : (wide : Bool) (p : Pixel) (ps : List Pixel) → write wide (p ∷ ps) ≡ write wide (p ∷ []) ++ write wide ps
write-more true p ps = refl
write-more false p ps = refl

pub pixel_more :
    (from to : Bool) (f : Pixel → Pixel) (src dst after : List ℕ) (i : ℕ) (p : Pixel)
    → i < length src / pixel_size from → p ≡ f (get_or (read from src) i no_pixel)
    → take (place to (3 * (i + 1))) after ≡ take (place to (3 * i)) dst ++ write to (p ∷ [])
    → Written (pixels_by to f) (read from src) dst (place to (3 * i)) i
    → Written (pixels_by to f) (read from src) after (place to (3 * (i + 1))) (i + 1)
pixel_more from to f src dst after i p h e put =
    let ps = read from src in
    written_more (pixels_by to f) ps no_pixel i (place to (3 * i)) (place to (3 * (i + 1))) dst after (write to (p ∷ [])) (rw (length-read from src) h) put
    (write-more to (f (get_or ps i no_pixel)) (map f (drop (suc i) ps)) ∙ ap (λ q. write to (q ∷ []) ++ pixels_by to f (drop (suc i) ps)) (sym e))

pub pixels_done :
    (from to : Bool) (f : Pixel → Pixel) (src dst after : List ℕ) (i : ℕ) → Exact from to (length src) (length dst) → length after ≡ length dst
    → length src / pixel_size from ≤ i → Written (pixels_by to f) (read from src) after (place to (3 * i)) i
    → after ≡ pixels_by to f (read from src)
pixels_done from to f src dst after i e kept h =
    written_all (pixels_by to f) (read from src) after (place to (3 * i)) i refl (omega (arith, length-read from src))
    (omega (arith, room-pixels from to src dst e.room-is, place_mono to {k = 3 * length (read from src)} {n = 3 * i} (omega (arith, length-read from src))))
