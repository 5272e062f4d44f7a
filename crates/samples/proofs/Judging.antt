-- Samples judged one after another: what one more sample changes, and when none is at fault.
-- Assumes nothing.
use Prim.Native.Nat.{ℕ, zero, suc, ◌+◌, ◌-◌, ◌*◌, ◌/◌, ◌%◌, ◌≤◌, ◌<◌}
use mathlib.Core.Path.{◌≡◌, refl, sym, ap, ◌∙◌}
use mathlib.Core.Bool.{Bool, true, false, false≢true, cond, not, ◌&&◌, ◌||◌}
use mathlib.Core.List.{List, [], ◌∷◌}
use native.Mathlib.Omega.{arith}
use native.Mathlib.Numerals.{add-one}
use borrow.Author.Tests.{eq-eqb, ne_eqb, lt-ltb, le-ltb, ltb-false, eqb-false, not-true}
use lib.Bits.{bit_or}
use lib.Dec.{ltb, eqb}
use lib.ListN.{length, get_or, drop}
use lib.Seq.{drop-cons}
use Rattle.numbers.proofs.Booleans.{or_false, and_true, and_false}
use Rattle.numbers.proofs.Bits.{or_zero, excess_zero}
use Rattle.refusal.specs.Answers.{sound, faulty, Said, accepted, refused_at, decides}
use Rattle.samples.specs.declared.Pixel.{Pixel}
use Rattle.samples.specs.declared.Coding.{Coding}
use Rattle.samples.specs.declared.Coding.TheVariants.{Bytes, Codes}
use Rattle.samples.specs.Samples.{place, pixel_size, two_by_two, samples_of, pixel, no_pixel, pixels_of, read}
use Rattle.samples.specs.Faults.{wide_coding, fault, samples_say}
use Rattle.samples.specs.HowJudged.{least_of, all_within, at_fault, SoundTo}
use Rattle.samples.proofs.Reading.{length_two, pixel-at}

pub say_at :
    (coding : Coding) (done : Said) (xs : List ℕ) (k : ℕ) → k < length xs
    → samples_say coding done k (drop k xs)
    ≡ decides (fault coding k (get_or xs k 0)) (place (wide_coding coding) k) (samples_say coding done (k + 1) (drop (k + 1) xs))
unfolding samples_say
say_at coding done xs k h = rw (drop-cons xs k 0 h, add-one)

-- ---- samples that cannot be at fault: bytes, and of 16 bits no code
pub bytes-sound : (done : Said) (k : ℕ) (xs : List ℕ) → samples_say Bytes done k xs ≡ done
unfolding samples_say fault
bytes-sound done k [] = refl
bytes-sound done k (x ∷ xs) = bytes-sound done (k + 1) xs

-- A sample that is no chroma of 0, wherever it stands.
sound_sample : (chroma : Bool) (greatest k x : ℕ) → x ≤ greatest → (chroma ≡ true → 1 ≤ x) → fault (Codes greatest chroma) k x ≡ sound
unfolding fault
sound_sample false greatest k x h c = simp (le-ltb greatest x h)
sound_sample true greatest k x h c =
    let some : 1 ≤ x = c refl in
    simp (le-ltb greatest x h, ne_eqb x 0 (omega arith), and_false)

pub none_above : (greatest : ℕ) (done : Said) (k : ℕ) (xs : List ℕ) → ((i : ℕ) → get_or xs i 0 ≤ greatest) → samples_say (Codes greatest false) done k xs ≡ done
unfolding samples_say
none_above greatest done k [] h = refl
none_above greatest done k (x ∷ xs) h =
    rw (sound_sample false greatest k x (h 0) (λ e. absurd (false≢true e))) (none_above greatest done (k + 1) xs (λ i. h (suc i)))

pub two_below : (bytes : List ℕ) → ((i : ℕ) → get_or bytes i 0 < 256) → (i : ℕ) → get_or (two_by_two bytes) i 0 ≤ 65535
two_below [] h i = omega arith
two_below (low ∷ []) h i = omega arith
two_below (low ∷ high ∷ rest) h zero =
    let a : low < 256 = h 0 in
    let b : high < 256 = h 1 in
    omega arith
two_below (low ∷ high ∷ rest) h (suc i) = two_below rest (λ j. h (suc (suc j))) i

-- ---- the quick look
pub within-at :
    (least greatest : ℕ) (xs : List ℕ) (k : ℕ) → k < length xs
    → all_within least greatest (drop k xs)
    ≡ not (ltb (get_or xs k 0) least || ltb greatest (get_or xs k 0)) && all_within least greatest (drop (k + 1) xs)
unfolding all_within
within-at least greatest xs k h = rw (drop-cons xs k 0 h, add-one)

none-outside : (out below above rest : Bool) → out && (not (below || above) && rest) ≡ ((out && not below) && not above) && rest
none-outside false b a rest = refl
none-outside true true a rest = refl
none-outside true false a rest = refl

-- Nothing gathered, and the next sample adds nothing: then both look sound.
pub one_more :
    (outside least greatest x : ℕ) (rest : Bool)
    → eqb outside 0 && (not (ltb x least || ltb greatest x) && rest) ≡ eqb (bit_or (bit_or outside (least - x)) (x - greatest)) 0 && rest
one_more outside least greatest x rest =
    none-outside (eqb outside 0) (ltb x least) (ltb greatest x) rest
    ∙ sym (rw (or_zero (bit_or outside (least - x)) (x - greatest), or_zero outside (least - x), excess_zero least x, excess_zero x greatest) refl)

pub within-sound :
    (chroma : Bool) (greatest : ℕ) (done : Said) (k : ℕ) (xs : List ℕ)
    → all_within (least_of chroma) greatest xs ≡ true → samples_say (Codes greatest chroma) done k xs ≡ done
unfolding all_within samples_say
within-sound chroma greatest done k [] h = refl
within-sound chroma greatest done k (x ∷ xs) h =
    let p = and_true (not (ltb x (least_of chroma) || ltb greatest x)) (all_within (least_of chroma) greatest xs) h in
    let q = or_false (ltb x (least_of chroma)) (ltb greatest x) (not-true _ p.0) in
    let least : least_of chroma ≤ x = ltb-false x (least_of chroma) q.0 in
    rw (sound_sample chroma greatest k x (ltb-false greatest x q.1) (λ e. rw e at least)) (within-sound chroma greatest done (k + 1) xs p.1)

-- ---- pixels with no sample at fault: none is above the greatest, and of luma and chroma no chroma is 0
pub record SoundPixel (chroma : Bool) (greatest : ℕ) (p : Pixel) : Type 0 where
  pub first : p.first ≤ greatest
  pub second : p.second ≤ greatest
  pub third : p.third ≤ greatest
  pub nonzero : chroma ≡ true → (1 ≤ p.second) × (1 ≤ p.third)

sound-first : (chroma : Bool) (greatest k x : ℕ) → k % 3 ≡ 0 → x ≤ greatest → fault (Codes greatest chroma) k x ≡ sound
unfolding fault
sound-first chroma greatest k x z h = simp (le-ltb greatest x h, eq-eqb (k % 3) 0 z, and_false)

-- xs are the samples of whole pixels, and sample k is the first of its pixel.
sound_samples :
    (chroma : Bool) (greatest : ℕ) (done : Said) (k : ℕ) (xs : List ℕ) → k % 3 ≡ 0 → length xs % 3 ≡ 0
    → ((j : ℕ) → j < length xs / 3 → SoundPixel chroma greatest (get_or (pixels_of xs) j no_pixel)) → samples_say (Codes greatest chroma) done k xs ≡ done
unfolding samples_say
sound_samples chroma greatest done k [] z whole h = refl
sound_samples chroma greatest done k (a ∷ []) z whole h = absurd (omega arith)
sound_samples chroma greatest done k (a ∷ b ∷ []) z whole h = absurd (omega arith)
sound_samples chroma greatest done k (a ∷ b ∷ c ∷ rest) z whole h =
    let p : SoundPixel chroma greatest (pixel a b c) = h 0 (omega arith) in
    rw (sound-first chroma greatest k a z p.first)
    (rw (sound_sample chroma greatest (k + 1) b p.second (λ e. (p.nonzero e).0))
    (rw (sound_sample chroma greatest (k + 1 + 1) c p.third (λ e. (p.nonzero e).1))
    (sound_samples chroma greatest done (k + 1 + 1 + 1) rest (omega arith) (omega arith) (λ j i. h (suc j) (omega arith)))))

-- A buffer of such pixels; of bytes, any pixel is sound.
abbrev pub Sounds : Coding → Pixel → Type 0
Sounds Bytes p = Unit
Sounds (Codes greatest chroma) p = SoundPixel chroma greatest p

pub sound-pixels :
    (coding : Coding) (done : Said) (bytes : List ℕ) → length bytes % pixel_size (wide_coding coding) ≡ 0
    → ((j : ℕ) → j < length bytes / pixel_size (wide_coding coding) → Sounds coding (get_or (read (wide_coding coding) bytes) j no_pixel))
    → samples_say coding done 0 (samples_of (wide_coding coding) bytes) ≡ done
sound-pixels Bytes done bytes whole h = bytes-sound done 0 bytes
sound-pixels (Codes greatest chroma) done bytes whole h =
    let size : length (two_by_two bytes) ≡ length bytes / 2 = length_two bytes in
    sound_samples chroma greatest done 0 (two_by_two bytes) refl (omega arith) (λ j i. h j (omega arith))

-- ---- pixels skipped one by one
no_fault : (chroma : Bool) (greatest : ℕ) (p : Pixel) → at_fault chroma greatest p ≡ false → SoundPixel chroma greatest p
no_fault chroma greatest p h =
    let q = or_false (ltb greatest p.first || ltb greatest p.second || ltb greatest p.third) (chroma && (eqb p.second 0 || eqb p.third 0)) h in
    let r = or_false (ltb greatest p.first || ltb greatest p.second) (ltb greatest p.third) q.0 in
    let s = or_false (ltb greatest p.first) (ltb greatest p.second) r.0 in
    record {
      first = ltb-false greatest p.first s.0;
      second = ltb-false greatest p.second s.1;
      third = ltb-false greatest p.third r.1;
      nonzero = λ e.
          let z = or_false (eqb p.second 0) (eqb p.third 0) (rw e at q.1) in
          let b : p.second ≡ 0 → ⊥ = eqb-false p.second 0 z.0 in
          let c : p.third ≡ 0 → ⊥ = eqb-false p.third 0 z.1 in
          (omega arith, omega arith);
    }

module _ (chroma : Bool) (greatest : ℕ) (xs : List ℕ) where
  pub sound_none : SoundTo chroma greatest xs 0
  sound_none = record { inside = omega arith; skips = λ done. refl }

  skip_one :
      (k : ℕ) (done : Said) → k < length xs → fault (Codes greatest chroma) k (get_or xs k 0) ≡ sound
      → samples_say (Codes greatest chroma) done k (drop k xs) ≡ samples_say (Codes greatest chroma) done (k + 1) (drop (k + 1) xs)
  skip_one k done h e =
      say_at (Codes greatest chroma) done xs k h ∙ ap (λ v. decides v (2 * k) (samples_say (Codes greatest chroma) done (k + 1) (drop (k + 1) xs))) e

  pub sound_more :
      (i : ℕ) → 3 * i + 2 < length xs → at_fault chroma greatest (get_or (pixels_of xs) i no_pixel) ≡ false
      → SoundTo chroma greatest xs (3 * i) → SoundTo chroma greatest xs (3 * (i + 1))
  sound_more i h f s =
      let p : SoundPixel chroma greatest (pixel (get_or xs (3 * i) 0) (get_or xs (3 * i + 1) 0) (get_or xs (3 * i + 2) 0)) =
      no_fault chroma greatest _ (rw (pixel-at xs i h) at f) in
      let two : 3 * i + 1 + 1 ≡ 3 * i + 2 = omega arith in
      let three : 3 * i + 2 + 1 ≡ 3 * (i + 1) = omega arith in
      record {
        inside = omega arith;
        skips = λ done.
            s.skips done
            ∙ skip_one (3 * i) done (omega arith) (sound-first chroma greatest (3 * i) _ (omega arith) p.first)
            ∙ skip_one (3 * i + 1) done (omega arith) (sound_sample chroma greatest (3 * i + 1) _ p.second (λ e. (p.nonzero e).0))
            ∙ rw (two, ← three) (skip_one (3 * i + 2) done (omega arith) (sound_sample chroma greatest (3 * i + 2) _ p.third (λ e. (p.nonzero e).1)));
      }

-- ---- accepted: no sample is above the greatest
within_by :
    (top at x count : ℕ) (rest : Said) (b : Bool) → ltb top x ≡ b
    → decides (cond b (faulty 12) sound) at rest ≡ accepted count → (x ≤ top) × (rest ≡ accepted count)
within_by top at x count rest true t e =
    let other : refused_at 12 at ≡ accepted count = e in
    let never : ◌≡◌ {A = ℕ} 0 1 = cc in
    absurd (omega arith)
within_by top at x count rest false t e = (ltb-false top x t, e)

-- Of a code at any place, and what comes behind it.
pub accepted-code :
    (top k x at count : ℕ) (rest : Said) → decides (fault (Codes top false) k x) at rest ≡ accepted count → (x ≤ top) × (rest ≡ accepted count)
unfolding fault
accepted-code top k x at count rest e = within_by top at x count rest (ltb top x) refl e

pub accepted-within :
    (top pixels count k : ℕ) (xs : List ℕ) → samples_say (Codes top false) (accepted pixels) k xs ≡ accepted count → (i : ℕ) → get_or xs i 0 ≤ top
unfolding samples_say
accepted-within top pixels count k [] e i = omega arith
accepted-within top pixels count k (x ∷ xs) e zero = (accepted-code top k x (2 * k) count _ e).0
accepted-within top pixels count k (x ∷ xs) e (suc i) = accepted-within top pixels count (k + 1) xs (accepted-code top k x (2 * k) count _ e).1 i

-- What is accepted is what would be without a look at the samples.
pub accepted-count :
    (top pixels count k : ℕ) (xs : List ℕ) → samples_say (Codes top false) (accepted pixels) k xs ≡ accepted count → pixels ≡ count
unfolding samples_say
accepted-count top pixels count k [] e = cc
accepted-count top pixels count k (x ∷ xs) e = accepted-count top pixels count (k + 1) xs (accepted-code top k x (2 * k) count _ e).1

-- What is said of a code, by whether it is above the greatest.
module _ (top k x at : ℕ) (rest : Said) where
  pub code-refused : top < x → decides (fault (Codes top false) k x) at rest ≡ refused_at 12 at
  unfolding fault
  code-refused h = rw (lt-ltb top x h) refl

  pub code_passes : x ≤ top → decides (fault (Codes top false) k x) at rest ≡ rest
  unfolding fault
  code_passes h = rw (le-ltb top x h) refl
