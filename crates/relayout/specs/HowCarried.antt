-- How the code carries a spool: what it finds of a frame, and the pixels copied over what the table leaves.
-- Assumes nothing.
use Rattle.std.specs.Prelude.{ℕ, ◌+◌, ◌≡◌, false, Some, Result, Ok, Err, List, ◌++◌, length, take, drop}
use Rattle.refusal.specs.declared.Fault.{Fault}
use Rattle.refusal.specs.Refusals.{number_of}
use Rattle.refusal.specs.Answers.{sound, faulty}
use Rattle.records.specs.declared.FrameRecord.{FrameRecord}
use Rattle.spool.specs.Find.{record_at, frame_fault}

-- What is found of frame k, where gaps between its rows are not taken: its record, or why and where it is refused.
abbrev pub IsFrame : List ℕ → ℕ → Result FrameRecord Fault → Type 0
IsFrame file k (Ok frame) = (frame_fault false file (record_at file k) ≡ sound) × (frame ≡ (record_at file k).frame)
IsFrame file k (Err fault) = (frame_fault false file (record_at file k) ≡ faulty (number_of fault.refusal)) × (fault.place ≡ Some k)

-- Bytes written over others from a place on.
abbrev pub over : List ℕ → ℕ → List ℕ → List ℕ
over d at b = take at d ++ (b ++ drop (at + length b) d)
