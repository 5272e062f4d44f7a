-- Which fault a frame has, from the tests that find it, and what holds of a frame that is found.
-- Assumes nothing.
use Rattle.std.specs.Prelude.{Result, Ok}
use Prim.Native.Nat.{ℕ, suc, ◌+◌, ◌-◌, ◌*◌, ◌≤◌, ◌<◌}
use native.Mathlib.Omega.{arith}
use native.Mathlib.Nat.{add-sub_cancel_left, mul-le-mul_left, mul-suc}
use mathlib.Core.Path.{◌≡◌, refl, sym, ap, ◌∙◌}
use mathlib.Core.Bool.{Bool, true, false, not}
use mathlib.Core.List.{List}
use lib.Dec.{ltb}
use lib.ListN.{length, take, drop}
use borrow.Author.Tests.{lt-ltb, le-ltb, ltb-true, ltb-false, not-false}
use Rattle.refusal.specs.declared.Refusal.{Refusal}
use Rattle.refusal.specs.Answers.{Verdict, sound, faulty}
use Rattle.refusal.proofs.Verdicts.{passed, both_sound}
use Rattle.records.specs.declared.Layout.{Layout}
use Rattle.records.specs.declared.StridedRecord.{StridedRecord}
use Rattle.spool.specs.declared.Contents.{Contents}
use Rattle.records.specs.Layout.{header_size, record_size, layout_of, no_record, header_of, record_in}
use Rattle.records.specs.Pixels.{span_bytes}
use Rattle.records.specs.Faults.{record_fault, stride_fault}
use Rattle.spool.specs.Open.{open_fault, open_said, open_says}
use Rattle.spool.specs.Find.{FindSaid, finds, refuses_frame, find_by, record_at, pixels_outside, pixel_end, frame_fault, frame_says, find_fault, says_of, find_says, pixels_start, pixels_length, frame_pixels}
use Rattle.numbers.proofs.Booleans.{or_false}
use Rattle.spool.proofs.OpenFaults.{open_file, opens-sound}

-- What an open spool gives, once the answer of Open is taken apart.
pub opened : (file : List ℕ) {o : Result Contents Refusal} {s : Contents} → o ≡ Ok s → open_said o ≡ open_says file
    → (open_fault file ≡ sound) × (s.count ≡ (header_of file).count) × (s.shop ≡ (header_of file).shop) × (s.table ≡ (header_of file).table)
opened file e said = opens-sound (open_fault file) (header_of file) (ap open_said (sym e) ∙ said)

-- The record of frame k is inside the file, and is what is read there.
pub record_inside : (file : List ℕ) (k : ℕ) → open_fault file ≡ sound → k < (header_of file).count → (header_of file).table + record_size (layout_of file) * k + record_size (layout_of file) ≤ length file
record_inside file k opens below =
    let inside = (open_file file opens).inside in
    let size = record_size (layout_of file) in
    let rows : size * suc k ≤ size * (header_of file).count = mul-le-mul_left size below in
    let more : size * suc k ≡ size * k + size = mul-suc size k in
    omega (arith, inside, rows, more)

pub record_there : (file : List ℕ) (k : ℕ) {l : Layout} {t : ℕ} {s : StridedRecord} → l ≡ layout_of file → t ≡ (header_of file).table
    → s ≡ record_in l (drop (t + record_size l * k) file) → s ≡ record_at file k
unfolding record_at
record_there file k told e read = read ∙ rw (told, e)

-- Find's answer in an open spool: there is no such frame, or its record decides.
module _ (gapsTaken : Bool) (file : List ℕ) (k : ℕ) (opens : open_fault file ≡ sound) where
  pub no_such_frame : (header_of file).count ≤ k → refuses_frame 5 no_record ≡ says_of gapsTaken file k
  unfolding find_fault
  no_such_frame past = simp (opens, le-ltb _ _ past)

  pub by_record : {s : StridedRecord} → k < (header_of file).count → s ≡ record_at file k → frame_says gapsTaken file s ≡ says_of gapsTaken file k
  unfolding find_fault
  by_record below read = simp (opens, lt-ltb _ _ below, read)

-- A record that is faulty, one whose stride is, and one that is sound.
module _ (gapsTaken : Bool) (file : List ℕ) (s : StridedRecord) where
  pub bad_record : {n : ℕ} → faulty n ≡ record_fault s.frame → refuses_frame n no_record ≡ frame_says gapsTaken file s
  unfolding frame_fault
  bad_record e = rw (sym e)

  module _ (fine : sound ≡ record_fault s.frame) where
    pub bad_stride : {n : ℕ} → faulty n ≡ stride_fault gapsTaken s → refuses_frame n no_record ≡ frame_says gapsTaken file s
    unfolding frame_fault
    bad_stride e = rw (sym fine, sym e)

    pub found : sound ≡ stride_fault gapsTaken s → pixels_outside file s ≡ false → finds s ≡ frame_says gapsTaken file s
    unfolding frame_fault
    found strides good = rw (sym fine, sym strides, good)

-- Pixels that start inside the header.
module _ (file : List ℕ) (s : StridedRecord) {l : Layout} {size : ℕ} (told : l ≡ layout_of file) (e : size ≡ header_size l) where
  pub starts_early : s.frame.offset < size → true ≡ pixels_outside file s
  unfolding pixels_outside
  starts_early early = let h : s.frame.offset < header_size (layout_of file) = rw (e, told) at early in simp (lt-ltb _ _ h)

-- What holds of a record that is sound in its file.
pub record Sound (gapsTaken : Bool) (file : List ℕ) (s : StridedRecord) : Type 0 where
  pub fine : record_fault s.frame ≡ sound
  pub strides : stride_fault gapsTaken s ≡ sound
  pub behind : header_size (layout_of file) ≤ s.frame.offset
  pub inside : pixel_end s ≤ length file

pub sound_record : (gapsTaken : Bool) (file : List ℕ) (s : StridedRecord) → frame_fault gapsTaken file s ≡ sound → Sound gapsTaken file s
unfolding frame_fault pixels_outside
sound_record gapsTaken file s e =
    let first = both_sound (record_fault s.frame) _ e in
    let second = both_sound (stride_fault gapsTaken s) _ first.1 in
    let third = passed (pixels_outside file s) 8 sound second.1 in
    let both = or_false (ltb s.frame.offset (header_size (layout_of file))) (ltb (length file) (pixel_end s)) third.0 in
    record { fine = first.0; strides = second.0; behind = ltb-false _ _ both.0; inside = ltb-false _ _ both.1 }

-- What holds of a frame that is found.
pub record Whole (gapsTaken : Bool) (file : List ℕ) (k : ℕ) (s : StridedRecord) : Type 0 where
  pub opens : open_fault file ≡ sound
  pub below : k < (header_of file).count
  pub read : s ≡ record_at file k
  pub is-sound : Sound gapsTaken file s

pub finds-sound : {r s : StridedRecord} (v : Verdict) → finds r ≡ find_by v s → (v ≡ sound) × (r ≡ s)
finds-sound sound e = (refl, cc)
finds-sound (faulty n) e = let z : ◌≡◌ {A = ℕ} 0 1 = cc in absurd (omega arith)

pub refuses-faulty : {n : ℕ} {r : StridedRecord} (v : Verdict) (s : StridedRecord) → refuses_frame n r ≡ find_by v s → v ≡ faulty n
refuses-faulty sound s e = let z : ◌≡◌ {A = ℕ} 0 1 = cc in absurd (omega arith)
refuses-faulty (faulty n) s e = cc

pub whole : (gapsTaken : Bool) (file : List ℕ) (k : ℕ) (s : StridedRecord) → finds s ≡ says_of gapsTaken file k → Whole gapsTaken file k s
unfolding find_fault
whole gapsTaken file k s e =
    let found = finds-sound (find_fault gapsTaken file k) e in
    let first = both_sound (open_fault file) _ found.0 in
    let second = passed (not (ltb k (header_of file).count)) 5 _ first.1 in
    record {
      opens = first.0;
      below = ltb-true _ _ (not-false _ second.0);
      read = found.1;
      is-sound = rw found.1 (sound_record gapsTaken file (record_at file k) second.1);
    }

-- The pixels of a frame that is found end with the file at the latest.
pub pixels_inside : (file : List ℕ) (k : ℕ) {s : StridedRecord} → finds s ≡ find_says file k → s.frame.offset + span_bytes s ≤ length file
pixels_inside file k {s} said = (whole true file k s said).is-sound.inside

-- Where they lie.
pub pixels-there : (file : List ℕ) (k n : ℕ) {s : StridedRecord} → find_says file k ≡ finds s → n ≡ span_bytes s
    → take (s.frame.offset + n - s.frame.offset) (drop s.frame.offset file) ≡ frame_pixels file k
pixels-there file k n {s} said e =
    ap (λ (m : ℕ). take m (drop s.frame.offset file)) (add-sub_cancel_left s.frame.offset n ∙ e)
    ∙ ap (λ (f : FindSaid). take (pixels_length f) (drop (pixels_start f) file)) (sym said)
