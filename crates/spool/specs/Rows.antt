-- The rows of a frame (rule 7.9).
-- Assumes nothing.
use Rattle.std.specs.Prelude.{ℕ, ◌+◌, ◌*◌, cond, List, ◌≡◌, take, drop, ltb}
use Rattle.std.specs.Borrow.{Bor}
use Rattle.records.specs.declared.StridedRecord.{StridedRecord}
use Rattle.records.specs.Pixels.{row_bytes}
use Rattle.spool.specs.declared.Extent.{Extent}
use Rattle.spool.specs.Find.{FindSaid, finds, refuses_frame, find_says}

-- No bytes, at the file's start.
abbrev pub no_extent : Extent
no_extent = record { start = 0; length = 0 }

-- Where row j of a record lies: j strides behind the first. Past the height there is no row.
abbrev pub row_extent : StridedRecord → ℕ → Extent
row_extent s j =
    cond (ltb j s.frame.height) (record { start = s.frame.offset + j * s.stride; length = row_bytes s.frame }) no_extent

abbrev pub row_of_said : FindSaid → ℕ → Extent
row_of_said (finds s) j = row_extent s j
row_of_said (refuses_frame n s) j = no_extent

-- Where row j of frame k lies, and its bytes.
abbrev pub row_place : List ℕ → ℕ → ℕ → Extent
row_place file k j = row_of_said (find_says file k) j

abbrev pub extent_of : Extent → List ℕ → List ℕ
extent_of e file = take e.length (drop e.start file)

abbrev pub frame_row : List ℕ → ℕ → ℕ → List ℕ
frame_row file k j = extent_of (row_place file k j) file

-- A part of the file that is row j of frame k: its bytes, and where it lies in the caller's own memory.
pub record IsRow (file : Bor (List ℕ)) (k j : ℕ) (part : Bor (List ℕ)) : Type 0 where
  pub bytes : part.now ≡ frame_row file.now k j
  pub block : part.ref_ptr.0 ≡ file.ref_ptr.0
  pub place : part.ref_ptr.1 ≡ file.ref_ptr.1 + (row_place file.now k j).start
