-- The order of refusals, step by step: which answer each test of the lengths leads to.
-- Assumes nothing.
use Prim.Native.Nat.{ℕ, ◌*◌, ◌/◌, ◌%◌, ◌≤◌}
use mathlib.Core.Path.{◌≡◌, refl, sym, ap, ◌∙◌}
use mathlib.Core.Bool.{Bool, true, false, cond, not}
use mathlib.Core.List.{List}
use native.Mathlib.Omega.{arith}
use borrow.Author.Tests.{eq-eqb, ne_eqb, eqb-true, eqb-false, not-false}
use lib.Dec.{eqb}
use lib.ListN.{length}
use Rattle.refusal.specs.Answers.{sound, faulty, or_else, Said, accepted, refused, refuses_or}
use Rattle.refusal.proofs.Verdicts.{passed, sound_other, test_other, either_other, both_sound, or_accepted, or_other, or_stands}
use Rattle.samples.specs.declared.Coding.{Coding}
use Rattle.samples.specs.declared.Coding.TheVariants.{Bytes, Codes}
use Rattle.samples.specs.Samples.{sample_size, pixel_size, two_by_two, samples_of}
use Rattle.samples.specs.Faults.{wide_coding, samples_say, length_fault, room_fault, call_fault, in_order, Exact, source_says}
use Rattle.samples.proofs.Judging.{bytes-sound}

pub some_sample : (wide : Bool) → 1 ≤ sample_size wide
some_sample true = omega arith
some_sample false = omega arith

pub some_size : (wide : Bool) → 3 ≤ pixel_size wide
some_size true = omega arith
some_size false = omega arith

-- Whole pixels are whole samples.
samples_whole : (wide : Bool) (len : ℕ) → len % pixel_size wide ≡ 0 → len % sample_size wide ≡ 0
samples_whole true len h = omega arith
samples_whole false len h = omega arith

-- The room for so many pixels, by what is left over and the quotient.
exact_room : (wide : Bool) (room pixels : ℕ) → room % pixel_size wide ≡ 0 → room / pixel_size wide ≡ pixels → room ≡ pixel_size wide * pixels
exact_room true room pixels h q = omega arith
exact_room false room pixels h q = omega arith

pub none_left : (wide : Bool) (room pixels : ℕ) → room ≡ pixel_size wide * pixels → room % pixel_size wide ≡ 0
none_left true room pixels h = omega arith
none_left false room pixels h = omega arith

quotient_is : (wide : Bool) (room pixels : ℕ) → room ≡ pixel_size wide * pixels → room / pixel_size wide ≡ pixels
quotient_is true room pixels h = omega arith
quotient_is false room pixels h = omega arith

-- So the quotient is compared for the room.
quotient_tells :
    (wide : Bool) (room pixels : ℕ) → room % pixel_size wide ≡ 0 → (b : Bool) → eqb (room / pixel_size wide) pixels ≡ b → b ≡ eqb room (pixel_size wide * pixels)
quotient_tells wide room pixels h true e = sym (eq-eqb room _ (exact_room wide room pixels h (eqb-true _ pixels e)))
quotient_tells wide room pixels h false e = sym (ne_eqb room _ (λ z. eqb-false _ pixels e (quotient_is wide room pixels z)))

pub room_told : (wide : Bool) (room pixels : ℕ) → room % pixel_size wide ≡ 0 → eqb (room / pixel_size wide) pixels ≡ eqb room (pixel_size wide * pixels)
room_told wide room pixels h = quotient_tells wide room pixels h _ refl

-- What the tests of a length lead to.
module _ (wide : Bool) (len : ℕ) where
  pub length_10 : (len % sample_size wide ≡ 0 → ⊥) → length_fault wide len ≡ faulty 10
  length_10 h = rw (ne_eqb _ 0 h)

  pub length_16 : len % sample_size wide ≡ 0 → (len % pixel_size wide ≡ 0 → ⊥) → length_fault wide len ≡ faulty 16
  length_16 whole h = rw (whole, ne_eqb _ 0 h)

  pub length-sound : len % pixel_size wide ≡ 0 → length_fault wide len ≡ sound
  length-sound whole = rw (samples_whole wide len whole, whole)

-- A source whose pixels are counted, and what the room leads to then.
pub counted_is :
    (wide : Bool) (len pixels : ℕ) → refuses_or (length_fault wide len) (accepted (len / pixel_size wide)) ≡ accepted pixels
    → (length_fault wide len ≡ sound) × (accepted (len / pixel_size wide) ≡ accepted pixels)
counted_is wide len pixels counted = or_accepted (length_fault wide len) _ pixels counted

-- What so many pixels need is a function of their number, so that this serves any kind of result.
module _
    (wide : Bool) (len room pixels : ℕ) (needed : ℕ → ℕ) (samples : Said)
    (counted : refuses_or (length_fault wide len) (accepted (len / pixel_size wide)) ≡ accepted pixels) where
  abbrev lengths_say : Said
  lengths_say = refuses_or (or_else (length_fault wide len) (room_fault (needed (len / pixel_size wide)) room)) samples

  room-decides : lengths_say ≡ refuses_or (room_fault (needed pixels) room) samples
  room-decides =
      let told = (counted_is wide len pixels counted).1 in
      let is : len / pixel_size wide ≡ pixels = cc in
      ap (λ v. refuses_or (or_else v (room_fault (needed (len / pixel_size wide)) room)) samples) (counted_is wide len pixels counted).0
      ∙ ap (λ n. refuses_or (room_fault (needed n) room) samples) is

  pub says_11 : eqb room (needed pixels) ≡ false → lengths_say ≡ refused 11
  says_11 e = room-decides ∙ ap (λ b. refuses_or (cond (not b) (faulty 11) sound) samples) e

  pub says-rest : eqb room (needed pixels) ≡ true → lengths_say ≡ samples
  says-rest e = room-decides ∙ ap (λ b. refuses_or (cond (not b) (faulty 11) sound) samples) e

-- Where a part of a pixel is left over, the room does not matter.
pub says_16 :
    (wideIn wideOut : Bool) (len room : ℕ) (samples : Said) → len % sample_size wideIn ≡ 0 → (len % pixel_size wideIn ≡ 0 → ⊥)
    → in_order true wideIn wideOut len room samples ≡ refused 16
says_16 wideIn wideOut len room samples whole h = rw (length_16 wideIn len whole h) refl

-- What exact lengths lead to.
pub says_samples :
    (wideIn wideOut : Bool) (len room : ℕ) (samples : Said) → len % pixel_size wideIn ≡ 0 → room ≡ pixel_size wideOut * (len / pixel_size wideIn)
    → in_order true wideIn wideOut len room samples ≡ samples
says_samples wideIn wideOut len room samples whole fits = rw (samples_whole wideIn len whole, whole, eq-eqb room _ fits)

-- Samples that take one byte or number each are always whole: 10 is never said of them.
pub never_10 :
    (offered wideOut : Bool) (len room : ℕ) (samples : Said) → (samples ≡ refused 10 → ⊥) → in_order offered false wideOut len room samples ≡ refused 10 → ⊥
never_10 offered wideOut len room samples =
    let needed = pixel_size wideOut * (len / pixel_size false) in
    let whole : len % sample_size false ≡ 0 = omega arith in
    or_other (call_fault offered false wideOut len room) 10 samples
    (rw whole
    (test_other (not offered) 9 10 _ (omega arith)
    (either_other (cond (not (eqb (len % pixel_size false) 0)) (faulty 16) sound) (room_fault needed room) 10
    (test_other (not (eqb (len % pixel_size false) 0)) 16 10 sound (omega arith) (sound_other 10))
    (test_other (not (eqb room needed)) 11 10 sound (omega arith) (sound_other 10)))))

-- What an accepted source and its room are.
sound_exact :
    (offered wideIn wideOut : Bool) (len room : ℕ) → call_fault offered wideIn wideOut len room ≡ sound → (offered ≡ true) × Exact wideIn wideOut len room
sound_exact offered wideIn wideOut len room h =
    let depth = passed (not offered) 9 _ h in
    let lengths = both_sound (length_fault wideIn len) (room_fault (pixel_size wideOut * (len / pixel_size wideIn)) room) depth.1 in
    let whole = passed (not (eqb (len % sample_size wideIn) 0)) 10 _ lengths.0 in
    let pixels = passed (not (eqb (len % pixel_size wideIn) 0)) 16 sound whole.1 in
    let fits = passed (not (eqb room (pixel_size wideOut * (len / pixel_size wideIn)))) 11 sound lengths.1 in
    (not-false _ depth.0, record { whole = eqb-true _ 0 (not-false _ pixels.0); room-is = eqb-true room _ (not-false _ fits.0) })

pub accepted_exact :
    (offered wideIn wideOut : Bool) (len room : ℕ) (samples : Said) (n : ℕ) → in_order offered wideIn wideOut len room samples ≡ accepted n
    → (offered ≡ true) × Exact wideIn wideOut len room × (samples ≡ accepted n)
accepted_exact offered wideIn wideOut len room samples n h =
    let said = or_accepted (call_fault offered wideIn wideOut len room) samples n h in
    let exact = sound_exact offered wideIn wideOut len room said.0 in
    (exact.0, exact.1, said.1)

-- ---- a source of bytes, and one of codes, whose lengths are looked at first
module _ (wideOut : Bool) (src : List ℕ) (room : ℕ) where
  pub bytes_say : in_order true false wideOut (length src) room (accepted (length src / 3)) ≡ source_says true Bytes wideOut src room
  unfolding source_says
  bytes_say = ap (in_order true false wideOut (length src) room) (sym (bytes-sound (accepted (length src / 3)) 0 src))

  module _ (greatest : ℕ) (chroma : Bool) (s : Said) where
    pub codes_say_lem :
        (pixels : ℕ) → in_order true true wideOut (length src) room (accepted (length src / 6)) ≡ accepted pixels
        → s ≡ samples_say (Codes greatest chroma) (accepted pixels) 0 (two_by_two src) → s ≡ source_says true (Codes greatest chroma) wideOut src room
    unfolding source_says
    codes_say_lem pixels h e =
        let exact = accepted_exact true true wideOut (length src) room (accepted (length src / 6)) pixels h in
        e
        ∙ ap (λ done. samples_say (Codes greatest chroma) done 0 (two_by_two src)) (sym exact.2)
        ∙ sym (says_samples true wideOut (length src) room _ exact.1.whole exact.1.room-is)

    pub codes-refused :
        ((n : ℕ) → s ≡ accepted n → ⊥) → s ≡ in_order true true wideOut (length src) room (accepted (length src / 6))
        → s ≡ source_says true (Codes greatest chroma) wideOut src room
    unfolding source_says
    codes-refused never h = or_stands (call_fault true true wideOut (length src) room) (length src / 6) _ s never h

-- What an accepted source is.
pub source_exact :
    (offered : Bool) (coding : Coding) (wideOut : Bool) (src : List ℕ) (room n : ℕ) → source_says offered coding wideOut src room ≡ accepted n
    → Exact (wide_coding coding) wideOut (length src) room
unfolding source_says
source_exact offered coding wideOut src room n h = (accepted_exact offered (wide_coding coding) wideOut (length src) room _ n h).1

pub source_samples :
    (offered : Bool) (coding : Coding) (wideOut : Bool) (src : List ℕ) (room n : ℕ) → source_says offered coding wideOut src room ≡ accepted n
    → samples_say coding (accepted (length src / pixel_size (wide_coding coding))) 0 (samples_of (wide_coding coding) src) ≡ accepted n
unfolding source_says
source_samples offered coding wideOut src room n h = (accepted_exact offered (wide_coding coding) wideOut (length src) room _ n h).2
