-- How the code reads a record and writes a header: in parts and at a length that do not depend on the layout.
-- Assumes nothing.
use Rattle.std.specs.Prelude.{ℕ, List, get_or}
use Rattle.records.specs.declared.Layout.{Layout}
use Rattle.records.specs.declared.Layout.TheVariants.{Strided}
use Rattle.records.specs.declared.Header.{Header}
use Rattle.records.specs.declared.FrameRecord.{FrameRecord}
use Rattle.records.specs.Fields.{numbers_in, field_bytes}
use Rattle.records.specs.Pixels.{row_bytes}
use Rattle.records.specs.Layout.{header_widths, frame_widths, record_widths, header_numbers, frame_from}

-- A record: the numbers that both layouts have, and the stride of a frame.
unfoldable pub frame_in : List ℕ → FrameRecord
frame_in bytes = frame_from (numbers_in frame_widths bytes)

abbrev pub stride_in : Layout → List ℕ → FrameRecord → ℕ
stride_in l bytes r = get_or (numbers_in (record_widths l) bytes) 7 (row_bytes r)

-- A header's bytes and, where it is plain, those of the numbers that it does not say.
abbrev pub long_header : Layout → Header → List ℕ
long_header l h = field_bytes (header_widths Strided) (header_numbers l h)
