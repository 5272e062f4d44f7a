-- How the header and the records of a spool file are laid out (rule 7.2). What the two layouts differ in is a table by layout.
-- Assumes nothing.
use Rattle.std.specs.Prelude.{ℕ, ◌+◌, ◌≤◌, ◌<◌, cond, ◌&&◌, List, [], ◌∷◌, ◌++◌, ◌≡◌, length, get_or, take, drop, eqb, leb, Option, None, Some}
use Rattle.numbers.specs.Bytes.{little_endian}
use Rattle.records.specs.declared.Layout.{Layout}
use Rattle.records.specs.declared.Layout.TheVariants.{Plain, Strided}
use Rattle.records.specs.declared.Header.{Header}
use Rattle.records.specs.declared.FrameRecord.{FrameRecord}
use Rattle.records.specs.declared.StridedRecord.{StridedRecord}
use Rattle.records.specs.Fields.{size_of, numbers_in, field_bytes}
use Rattle.records.specs.Pixels.{row_bytes}

-- The header: the layout's first number, shop, offset of the table, length of the file; strided, also frame count and size of a record.
abbrev pub header_widths : Layout → List ℕ
header_widths Plain = 2 ∷ 2 ∷ 4 ∷ 4 ∷ []
header_widths Strided = 2 ∷ 2 ∷ 4 ∷ 4 ∷ 2 ∷ 2 ∷ []

-- A record: offset of the pixels, width, height, kind, bits, copies, order; strided, also the stride.
abbrev pub frame_widths : List ℕ
frame_widths = 4 ∷ 2 ∷ 2 ∷ 1 ∷ 1 ∷ 2 ∷ 4 ∷ []

abbrev pub record_widths : Layout → List ℕ
record_widths Plain = frame_widths
record_widths Strided = frame_widths ++ (4 ∷ [])

-- The first number: the frame count of a plain spool, and in a strided one a number that is no count.
abbrev pub strided_mark : ℕ
strided_mark = 65535

abbrev pub first_number : Layout → ℕ → ℕ
first_number Plain count = count
first_number Strided count = strided_mark

-- Which number of the header is the frame count, from 0.
abbrev pub count_at : Layout → ℕ
count_at Plain = 0
count_at Strided = 4

abbrev pub header_size : Layout → ℕ
header_size l = size_of (header_widths l)

abbrev pub record_size : Layout → ℕ
record_size l = size_of (record_widths l)

abbrev pub other_layout : Layout → Layout
other_layout Plain = Strided
other_layout Strided = Plain

-- The layout of a file, by its first number. A file too short to have one is too short for either header.
unfoldable pub layout_of : List ℕ → Layout
layout_of file = cond (leb 2 (length file) && eqb (little_endian (take 2 file)) strided_mark) Strided Plain

-- A header and a record as their numbers, in the order of the strided layout; the plain one has the first of them.
abbrev pub header_numbers : Layout → Header → List ℕ
header_numbers l h = first_number l h.count ∷ h.shop ∷ h.table ∷ h.length ∷ h.count ∷ h.size ∷ []

abbrev pub frame_numbers : FrameRecord → List ℕ
frame_numbers r = r.offset ∷ r.width ∷ r.height ∷ r.kind ∷ r.bits ∷ r.copies ∷ r.order ∷ []

abbrev pub record_numbers : StridedRecord → List ℕ
record_numbers s = frame_numbers s.frame ++ (s.stride ∷ [])

abbrev pub header_bytes : Layout → Header → List ℕ
header_bytes l h = field_bytes (header_widths l) (header_numbers l h)

abbrev pub record_bytes : Layout → StridedRecord → List ℕ
record_bytes l s = field_bytes (record_widths l) (record_numbers s)

-- The header and the record that given numbers are. What a plain spool does not say, it is known to have: records of its own size, and
-- rows without gaps.
abbrev pub header_from : Layout → List ℕ → Header
header_from l ns =
    record { count = get_or ns (count_at l) 0; shop = get_or ns 1 0; table = get_or ns 2 0; length = get_or ns 3 0; size = get_or ns 5 (record_size l) }

abbrev pub frame_from : List ℕ → FrameRecord
frame_from ns =
    record { offset = get_or ns 0 0; width = get_or ns 1 0; height = get_or ns 2 0; kind = get_or ns 3 0; bits = get_or ns 4 0; copies = get_or ns 5 0; order = get_or ns 6 0 }

abbrev pub record_from : List ℕ → StridedRecord
record_from ns = record { frame = frame_from ns; stride = get_or ns 7 (row_bytes (frame_from ns)) }

-- A frame's record of zeros, the same with a stride of 0, and a record with another offset of its pixels.
abbrev pub no_frame : FrameRecord
no_frame = frame_from []

abbrev pub no_record : StridedRecord
no_record = record { frame = no_frame; stride = 0 }

abbrev pub with_offset : ℕ → FrameRecord → FrameRecord
with_offset at r = frame_from (at ∷ drop 1 (frame_numbers r))

-- The header and the record that stand at the start of some bytes, and the header of a file.
unfoldable pub header_in : Layout → List ℕ → Header
header_in l bytes = header_from l (numbers_in (header_widths l) bytes)

abbrev pub header_of : List ℕ → Header
header_of file = header_in (layout_of file) file

unfoldable pub record_in : Layout → List ℕ → StridedRecord
record_in l bytes = record_from (numbers_in (record_widths l) bytes)

-- What reading a header gives, and reading a record at a place: nothing if some of its bytes are missing.
abbrev pub ReadsHeader : Layout → List ℕ → Option Header → Type 0
ReadsHeader l bytes (Some h) = (header_size l ≤ length bytes) × (h ≡ header_in l bytes)
ReadsHeader l bytes None = length bytes < header_size l

abbrev pub ReadsRecord : Layout → List ℕ → ℕ → Option StridedRecord → Type 0
ReadsRecord l bytes at (Some s) = (at + record_size l ≤ length bytes) × (s ≡ record_in l (drop at bytes))
ReadsRecord l bytes at None = length bytes < at + record_size l
