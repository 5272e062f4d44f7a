-- What laying out and then finding gives back.
-- Assumes nothing.
use Rattle.std.specs.Prelude.{ℕ, ◌+◌, ◌^◌, ◌<◌, ◌≡◌, List, [], ◌∷◌, length, get_or, take, drop}
use Rattle.records.specs.declared.FrameRecord.{FrameRecord}
use Rattle.records.specs.declared.StridedRecord.{StridedRecord}
use Rattle.records.specs.declared.Layout.{Layout}
use Rattle.records.specs.Layout.{frame_widths, header_size, frame_numbers, layout_of, no_frame, with_offset}
use Rattle.records.specs.Pixels.{pixel_bytes, packed}
use Rattle.spool.specs.Open.{opens, open_says}
use Rattle.spool.specs.Find.{finds, find_says, frame_pixels}
use Rattle.layout.specs.LayOut.{pixels_from, all_pixels}

-- Numbers that have these widths, in bytes.
abbrev pub OfWidths : List ℕ → List ℕ → Type 0
OfWidths [] [] = Unit
OfWidths [] (number ∷ numbers) = ⊥
OfWidths (width ∷ widths) [] = ⊥
OfWidths (width ∷ widths) (number ∷ numbers) = (number < 256 ^ width) × OfWidths widths numbers

-- Records whose numbers have the widths of the layout, as every record of the code has.
abbrev pub AllOfWidths : List FrameRecord → Type 0
AllOfWidths [] = Unit
AllOfWidths (r ∷ rs) = OfWidths frame_widths (frame_numbers r) × AllOfWidths rs

-- Where the pixels of frame k are placed: behind the table and the pixels of the frames before it.
abbrev pub pixel_place : Layout → List FrameRecord → ℕ → ℕ
pixel_place l rs k = pixels_from l (length rs) + all_pixels (take k rs)

-- Frame k of a spool with these records: its record with the new offset, and rows without gaps.
abbrev pub placed_record : Layout → List FrameRecord → ℕ → StridedRecord
placed_record l rs k = packed (with_offset (pixel_place l rs k) (get_or rs k no_frame))

-- A file with these records, laid out over what was found: it opens; frame k is record k with its pixel offset; and the
-- frame's pixels are the bytes that stood at that offset before.
pub record HoldsRecords (l : Layout) (rs : List FrameRecord) (shop : ℕ) (found file : List ℕ) : Type 0 where
  pub layout : layout_of file ≡ l
  pub spool : open_says file ≡ opens (length rs) shop (header_size l)
  pub frame : (k : ℕ) → k < length rs → find_says file k ≡ finds (placed_record l rs k)
  pub pixels : (k : ℕ) → k < length rs → frame_pixels file k ≡ take (pixel_bytes (get_or rs k no_frame)) (drop (pixel_place l rs k) found)
