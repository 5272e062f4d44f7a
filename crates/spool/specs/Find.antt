-- Find a frame (rule 7.6).
-- Assumes nothing.
use Rattle.std.specs.Prelude.{ℕ, ◌+◌, ◌*◌, Bool, true, cond, not, ◌||◌, List, ◌≡◌, length, take, drop, ltb, Result, Ok, Err}
use Rattle.std.specs.Borrow.{Bor}
use Rattle.refusal.specs.declared.Refusal.{Refusal}
use Rattle.refusal.specs.Refusals.{number_of}
use Rattle.refusal.specs.Answers.{Verdict, sound, faulty, or_else}
use Rattle.records.specs.declared.StridedRecord.{StridedRecord}
use Rattle.records.specs.Layout.{header_size, record_size, layout_of, no_record, header_of, record_in}
use Rattle.records.specs.Pixels.{span_bytes}
use Rattle.records.specs.Faults.{record_fault, stride_fault}
use Rattle.spool.specs.Open.{open_fault}

-- The record of frame k; the first has number 0.
unfoldable pub record_at : List ℕ → ℕ → StridedRecord
record_at file k = record_in (layout_of file) (drop ((header_of file).table + record_size (layout_of file) * k) file)

-- Where the pixels of a record end: with the last row's own bytes.
abbrev pub pixel_end : StridedRecord → ℕ
pixel_end s = s.frame.offset + span_bytes s

-- 8: the pixels start inside the header or end behind the file.
unfoldable pub pixels_outside : List ℕ → StridedRecord → Bool
pixels_outside file s = ltb s.frame.offset (header_size (layout_of file)) || ltb (length file) (pixel_end s)

-- The refusal of a record in its file: 6, 7, 21, then 8; 21 is also for gaps between rows, where they are not taken.
unfoldable pub frame_fault : Bool → List ℕ → StridedRecord → Verdict
frame_fault gapsTaken file s =
    or_else (record_fault s.frame) (or_else (stride_fault gapsTaken s) (cond (pixels_outside file s) (faulty 8) sound))

-- The refusal of a frame number: Open's, then 5, then that of its record.
unfoldable pub find_fault : Bool → List ℕ → ℕ → Verdict
find_fault gapsTaken file k =
    or_else (open_fault file) (cond (not (ltb k (header_of file).count)) (faulty 5) (frame_fault gapsTaken file (record_at file k)))

-- What Find gives.
abbrev pub Found : Type 0
Found = Result StridedRecord Refusal

-- The answer: the record; or the refusal, with a record of zeros.
pub data FindSaid : Type 0 where
  finds : StridedRecord → FindSaid
  refuses_frame : ℕ → StridedRecord → FindSaid

abbrev pub find_said : Found → FindSaid
find_said (Ok s) = finds s
find_said (Err r) = refuses_frame (number_of r) no_record

abbrev pub find_by : Verdict → StridedRecord → FindSaid
find_by sound s = finds s
find_by (faulty n) s = refuses_frame n no_record

abbrev pub frame_says : Bool → List ℕ → StridedRecord → FindSaid
frame_says gapsTaken file s = find_by (frame_fault gapsTaken file s) s

-- The answer where gaps between rows are taken or not. Find takes them.
abbrev pub says_of : Bool → List ℕ → ℕ → FindSaid
says_of gapsTaken file k = find_by (find_fault gapsTaken file k) (record_at file k)

abbrev pub find_says : List ℕ → ℕ → FindSaid
find_says file k = says_of true file k

-- The frame's pixels in the lent file, document 01's stretch: where they start and how many bytes they are, gaps included. Refused, there
-- are none, at the file's first byte.
abbrev pub pixels_start : FindSaid → ℕ
pixels_start (finds s) = s.frame.offset
pixels_start (refuses_frame n s) = 0

abbrev pub pixels_length : FindSaid → ℕ
pixels_length (finds s) = span_bytes s
pixels_length (refuses_frame n s) = 0

abbrev pub frame_pixels : List ℕ → ℕ → List ℕ
frame_pixels file k = take (pixels_length (find_says file k)) (drop (pixels_start (find_says file k)) file)

-- A part of the file that is frame k's pixels: its bytes, and where it lies in the caller's own memory.
pub record IsPixels (file : Bor (List ℕ)) (k : ℕ) (part : Bor (List ℕ)) : Type 0 where
  pub bytes : part.now ≡ frame_pixels file.now k
  pub block : part.ref_ptr.0 ≡ file.ref_ptr.0
  pub place : part.ref_ptr.1 ≡ file.ref_ptr.1 + pixels_start (find_says file.now k)
