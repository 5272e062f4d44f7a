-- How many bytes the pixels of a frame take (rule 7.4).
-- Assumes nothing.
use Rattle.std.specs.Prelude.{ℕ, ◌+◌, ◌-◌, ◌*◌, Bool, ◌&&◌, ltb}
use Rattle.samples.specs.Samples.{is_wide, pixel_size}
use Rattle.records.specs.declared.FrameRecord.{FrameRecord}
use Rattle.records.specs.declared.StridedRecord.{StridedRecord}

-- A row's own bytes, and those of all rows without the gaps between them.
abbrev pub row_bytes : FrameRecord → ℕ
row_bytes r = r.width * pixel_size (is_wide r.bits)

abbrev pub pixel_bytes : FrameRecord → ℕ
pixel_bytes r = r.height * row_bytes r

-- From the first byte of the first row to the last byte of the last row: a stride from each row to the next, and the last row.
abbrev pub span_bytes : StridedRecord → ℕ
span_bytes s = (s.frame.height - 1) * s.stride + row_bytes s.frame

-- Is there a gap between two rows?
abbrev pub has_gaps : StridedRecord → Bool
has_gaps s = ltb 1 s.frame.height && ltb (row_bytes s.frame) s.stride

-- A record of rows without gaps.
abbrev pub packed : FrameRecord → StridedRecord
packed r = record { frame = r; stride = row_bytes r }
