-- What a spool keeps in the other layout, there and back (rule 7.11).
-- Assumes nothing.
use Rattle.std.specs.Prelude.{ℕ, ◌≤◌, ◌<◌, ◌≡◌, List, length}
use Rattle.numbers.specs.Bytes.{AllBytes}
use Rattle.refusal.specs.Answers.{Said, accepted}
use Rattle.records.specs.declared.Layout.{Layout}
use Rattle.records.specs.Layout.{layout_of, header_of, header_size, with_offset}
use Rattle.records.specs.Pixels.{packed}
use Rattle.spool.specs.Open.{opens, open_says}
use Rattle.spool.specs.Find.{finds, record_at, find_says}
use Rattle.spool.specs.Rows.{frame_row}
use Rattle.layout.specs.LayOut.{length_limit, total_length}
use Rattle.layout.specs.RoundTrip.{pixel_place}
use Rattle.relayout.specs.Relayout.{target, records_of, relayout_says, relaid}

-- A result that holds the frames of a file in a layout: it opens, with as many frames and the same shop; each frame is found, with the same
-- record but for offset and stride; and each of its rows, those past the height too, has the same bytes.
pub record Carries (l : Layout) (file result : List ℕ) : Type 0 where
  pub layout : layout_of result ≡ l
  pub spool : open_says result ≡ opens (header_of file).count (header_of file).shop (header_size l)
  pub frame : (k : ℕ) → k < (header_of file).count → find_says result k ≡ finds (packed (with_offset (pixel_place l (records_of file) k) (record_at file k).frame))
  pub rows : (k j : ℕ) → k < (header_of file).count → frame_row result k j ≡ frame_row file k j

-- There: what is accepted has the length that is answered, and holds the frames of the file in the other layout.
abbrev pub There : Type 0
There =
    (file : List ℕ) (room total : ℕ) → AllBytes file → relayout_says file room ≡ accepted total
    → (length (relaid file) ≡ total) × Carries (target file) file (relaid file)

-- And back: the result is accepted again, where the returning total is within the limit, and holds the frames of the file in its own layout.
pub record Returns (file : List ℕ) : Type 0 where
  pub accepts : relayout_says (relaid file) (total_length (layout_of file) (records_of file)) ≡ accepted (total_length (layout_of file) (records_of file))
  pub carries : Carries (layout_of file) file (relaid (relaid file))

abbrev pub ThereAndBack : Type 0
ThereAndBack =
    (file : List ℕ) (room total : ℕ) → AllBytes file → relayout_says file room ≡ accepted total
    → total_length (layout_of file) (records_of file) ≤ length_limit → Returns file

-- Both, of what an operation says and leaves: the promise of the code.
abbrev pub Carried : List ℕ → Said → List ℕ → Type 0
Carried file says bytes =
    (total : ℕ) → says ≡ accepted total
    → (length bytes ≡ total) × (Carries (target file) file bytes × (total_length (layout_of file) (records_of file) ≤ length_limit → Returns file))
