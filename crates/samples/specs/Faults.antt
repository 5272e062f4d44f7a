-- What an operation says of a source and of the room for its result: the order of refusals, and the first sample at fault (rules 4.2 and
-- 4.3).
-- Assumes nothing.
use Rattle.std.specs.Prelude.{ℕ, ◌+◌, ◌*◌, ◌/◌, ◌%◌, ◌≡◌, Bool, true, false, cond, not, ◌&&◌, List, [], ◌∷◌, eqb, ltb, length}
use Rattle.refusal.specs.Answers.{Verdict, sound, faulty, or_else, Said, accepted, decides, refuses_or}
use Rattle.samples.specs.declared.Coding.{Coding}
use Rattle.samples.specs.declared.Coding.TheVariants.{Bytes, Codes}
use Rattle.samples.specs.Samples.{place, sample_size, pixel_size, samples_of}

-- Rule 3.1: codes have more than 8 bits.
abbrev pub wide_coding : Coding → Bool
wide_coding Bytes = false
wide_coding (Codes greatest chroma) = true

-- Rule 4.3, of sample x, which is the k-th of its buffer: 12 above the greatest code, 13 for a chroma of 0. Of a pixel's three samples
-- the first is luma and the other two are chroma. A byte is never at fault.
unfoldable pub fault : Coding → ℕ → ℕ → Verdict
fault Bytes k x = sound
fault (Codes greatest chroma) k x = cond (ltb greatest x) (faulty 12) (cond (chroma && (not (eqb (k % 3) 0) && eqb x 0)) (faulty 13) sound)

-- Rule 4.3, of samples xs, the first of which is the k-th: the first fault and its place, or `done` if there is none.
unfoldable pub samples_say : Coding → Said → ℕ → List ℕ → Said
samples_say coding done k [] = done
samples_say coding done k (x ∷ xs) =
    decides (fault coding k x) (place (wide_coding coding) k) (samples_say coding done (k + 1) xs)

-- Rule 4.2: is a source of `len` bytes or numbers whole samples, and is it whole pixels? Samples are wide or not; light is counted in
-- numbers, one to a sample (rule 6.7). So of samples of one byte and of light, any length is whole samples.
abbrev pub length_fault : Bool → ℕ → Verdict
length_fault wide len =
    cond (not (eqb (len % sample_size wide) 0)) (faulty 10)
    (cond (not (eqb (len % pixel_size wide) 0)) (faulty 16)
    sound)

-- Rule 4.2: has the destination the room needed?
abbrev pub room_fault : ℕ → ℕ → Verdict
room_fault needed room = cond (not (eqb room needed)) (faulty 11) sound

-- Rule 4.2, the order of refusals of every operation on pictures: is the depth offered; the source's length; the destination's `room`.
-- Samples are wide or not, in the source and in the result.
abbrev pub call_fault : Bool → Bool → Bool → ℕ → ℕ → Verdict
call_fault offered wideIn wideOut len room =
    cond (not offered) (faulty 9)
    (or_else (length_fault wideIn len) (room_fault (pixel_size wideOut * (len / pixel_size wideIn)) room))

-- At last what the samples say.
abbrev pub in_order : Bool → Bool → Bool → ℕ → ℕ → Said → Said
in_order offered wideIn wideOut len room samples = refuses_or (call_fault offered wideIn wideOut len room) samples

-- Lengths that none of these refuses: whole pixels are whole samples.
pub record Exact (wideIn wideOut : Bool) (len room : ℕ) : Type 0 where
  pub whole : len % pixel_size wideIn ≡ 0
  pub room-is : room ≡ pixel_size wideOut * (len / pixel_size wideIn)

-- What is said of a source in bytes, whose samples are judged: the pixel count if nothing is at fault (rule 4.5).
unfoldable pub source_says : Bool → Coding → Bool → List ℕ → ℕ → Said
source_says offered coding wideOut src room =
    in_order offered (wide_coding coding) wideOut (length src) room
    (samples_say coding (accepted (length src / pixel_size (wide_coding coding))) 0 (samples_of (wide_coding coding) src))
