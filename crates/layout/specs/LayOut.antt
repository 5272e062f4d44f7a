-- Lay out a spool (rule 7.8).
-- Assumes nothing.
use Rattle.std.specs.Prelude.{ℕ, ◌+◌, ◌*◌, cond, List, [], ◌∷◌, ◌++◌, length, drop, eqb, ltb}
use Rattle.refusal.specs.Answers.{Said, accepted, refused, decides}
use Rattle.records.specs.declared.FrameRecord.{FrameRecord}
use Rattle.records.specs.declared.Header.{Header}
use Rattle.records.specs.declared.Layout.{Layout}
use Rattle.records.specs.declared.Layout.TheVariants.{Plain}
use Rattle.records.specs.Layout.{header_size, record_size, with_offset, header_bytes, record_bytes}
use Rattle.records.specs.Pixels.{pixel_bytes, packed}
use Rattle.records.specs.Faults.{frame_limit, record_fault}

-- 14: the greatest length that a header can say.
abbrev pub length_limit : ℕ
length_limit = 4294967295

-- The table stands right behind the header: where its record k stands. The pixels stand right behind the table.
abbrev pub record_place : Layout → ℕ → ℕ
record_place l k = header_size l + record_size l * k

abbrev pub pixels_from : Layout → ℕ → ℕ
pixels_from l count = record_place l count

-- The bytes of all pixels, without gaps, and of a spool with them.
abbrev pub all_pixels : List FrameRecord → ℕ
all_pixels [] = 0
all_pixels (r ∷ rs) = pixel_bytes r + all_pixels rs

abbrev pub total_length : Layout → List FrameRecord → ℕ
total_length l rs = pixels_from l (length rs) + all_pixels rs

-- 6 and 7, of records the first of which has the given place: the first one at fault decides, and `done` is said if there is none.
unfoldable pub records_say : Said → ℕ → List FrameRecord → Said
records_say done place [] = done
records_say done place (r ∷ rs) = decides (record_fault r) place (records_say done (place + 1) rs)

-- 14, 11, or the total length, for a destination of `room` bytes.
abbrev pub room_says : ℕ → ℕ → Said
room_says total room = cond (ltb length_limit total) (refused 14) (cond (eqb room total) (accepted total) (refused 11))

-- The answer: 3, the records, 14, 11, or the total length.
unfoldable pub layout_says : List FrameRecord → ℕ → Said
layout_says rs room = cond (ltb frame_limit (length rs)) (refused 3) (records_say (room_says (total_length Plain rs) room) 0 rs)

-- The records with their new offsets, the first at the given one: pixels follow each other.
abbrev pub placed : ℕ → List FrameRecord → List FrameRecord
placed at [] = []
placed at (r ∷ rs) = with_offset at r ∷ placed (at + pixel_bytes r) rs

-- The table of records whose rows have no gaps.
abbrev pub table_bytes : Layout → List FrameRecord → List ℕ
table_bytes l [] = []
table_bytes l (r ∷ rs) = record_bytes l (packed r) ++ table_bytes l rs

-- The header of a spool with so many frames, of this shop and total length.
abbrev pub header_for : Layout → ℕ → ℕ → ℕ → Header
header_for l count shop total = record { count = count; shop = shop; table = header_size l; length = total; size = record_size l }

-- A spool of these records: header, table, and behind them the given bytes.
unfoldable pub spool_bytes : Layout → List FrameRecord → ℕ → List ℕ → List ℕ
spool_bytes l rs shop pixels =
    header_bytes l (header_for l (length rs) shop (total_length l rs)) ++ (table_bytes l (placed (pixels_from l (length rs)) rs) ++ pixels)

-- What the destination holds if it accepts: a plain spool, with the pixel bytes that were found there.
abbrev pub layout_bytes : List FrameRecord → ℕ → List ℕ → List ℕ
layout_bytes rs shop found = spool_bytes Plain rs shop (drop (pixels_from Plain (length rs)) found)
