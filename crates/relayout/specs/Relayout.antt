-- Carry a spool to the other layout (rule 7.10).
-- Assumes nothing.
use Rattle.std.specs.Prelude.{ℕ, zero, suc, ◌+◌, false, List, [], ◌∷◌, ◌++◌}
use Rattle.refusal.specs.Answers.{Said, decides, refuses_or}
use Rattle.records.specs.declared.FrameRecord.{FrameRecord}
use Rattle.records.specs.declared.Layout.{Layout}
use Rattle.records.specs.Layout.{layout_of, other_layout, header_of}
use Rattle.spool.specs.Open.{open_fault}
use Rattle.spool.specs.Find.{record_at, frame_fault, frame_pixels}
use Rattle.layout.specs.LayOut.{total_length, room_says, spool_bytes}

-- The layout that a file is carried to.
abbrev pub target : List ℕ → Layout
target file = other_layout (layout_of file)

-- The records of so many frames from frame k on, and of all frames.
unfoldable pub records_from : List ℕ → ℕ → ℕ → List FrameRecord
records_from file zero k = []
records_from file (suc left) k = (record_at file k).frame ∷ records_from file left (k + 1)

abbrev pub records_of : List ℕ → List FrameRecord
records_of file = records_from file (header_of file).count 0

-- 6, 7, 21 and 8, of so many frames from frame k on: the first one at fault decides, with its number, and `done` is said if there is none.
-- Gaps between rows are not taken; a plain spool has none.
unfoldable pub frames_say : List ℕ → Said → ℕ → ℕ → Said
frames_say file done zero k = done
frames_say file done (suc left) k = decides (frame_fault false file (record_at file k)) k (frames_say file done left (k + 1))

-- The answer, for a destination of `room` bytes: Open's refusals, the frames', 14, 11, or the total length.
unfoldable pub relayout_says : List ℕ → ℕ → Said
relayout_says file room =
    refuses_or (open_fault file) (frames_say file (room_says (total_length (target file) (records_of file)) room) (header_of file).count 0)

-- The pixels of so many frames from frame k on, one frame after another.
unfoldable pub frame_pixels_from : List ℕ → ℕ → ℕ → List ℕ
frame_pixels_from file zero k = []
frame_pixels_from file (suc left) k = frame_pixels file k ++ frame_pixels_from file left (k + 1)

abbrev pub pixels_of : List ℕ → List ℕ
pixels_of file = frame_pixels_from file (header_of file).count 0

-- What the destination holds if it accepts: the same records, each with rows without gaps and its new offset, and the same pixels.
abbrev pub relaid : List ℕ → List ℕ
relaid file = spool_bytes (target file) (records_of file) (header_of file).shop (pixels_of file)
