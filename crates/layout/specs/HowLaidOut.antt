-- How the code lays out: a pass over the records that checks them, the header, and a pass that writes them. The proofs show that this
-- comes to what `LayOut` says. What a function leaves has the participle of its name: `visit` and `visited`, `write_record` and
-- `record_written`.
-- Assumes nothing.
use Rattle.std.specs.Prelude.{ℕ, ◌+◌, cond, List, [], ◌∷◌, ◌++◌, length, take, drop, eqb, leb, ltb}
use Rattle.refusal.specs.Answers.{Answer, Said, accepted, refused, refused_at, said, leaves, decides}
use Rattle.records.specs.declared.FrameRecord.{FrameRecord}
use Rattle.records.specs.declared.Layout.{Layout}
use Rattle.records.specs.declared.Layout.TheVariants.{Plain}
use Rattle.records.specs.Layout.{header_size, record_size, with_offset, header_bytes, record_bytes}
use Rattle.records.specs.Pixels.{pixel_bytes, packed}
use Rattle.records.specs.Faults.{frame_limit, record_fault}
use Rattle.layout.specs.LayOut.{length_limit, record_place, pixels_from, header_for, records_say}

-- What a step leaves: what it says, accepted with the offset behind the pixels placed so far, and the destination.
pub record State : Type 0 where
  pub says : Said
  pub bytes : List ℕ

abbrev pub state_of : Answer → List ℕ → State
state_of answer bytes = record { says = said answer; bytes = bytes }

-- The state where nothing is refused, and the next pixels start at `end`.
abbrev pub starts : ℕ → List ℕ → State
starts end bytes = record { says = accepted end; bytes = bytes }

-- A sum that no longer grows once it is past the limit, and that sum over records.
abbrev pub grown : ℕ → ℕ → ℕ
grown end more = cond (ltb length_limit end) end (end + more)

abbrev pub summed : ℕ → List FrameRecord → ℕ
summed end [] = end
summed end (r ∷ rs) = summed (grown end (pixel_bytes r)) rs

-- The check of one record.
abbrev pub checked : ℕ → ℕ → FrameRecord → Said
checked end place r = decides (record_fault r) place (accepted (grown end (pixel_bytes r)))

-- The destination with a record written at its place, where it fits.
unfoldable pub record_written : Layout → ℕ → ℕ → FrameRecord → List ℕ → List ℕ
record_written l place end r bytes =
    cond (ltb place frame_limit)
    (cond (leb end length_limit)
    (cond (leb (record_place l place + record_size l) (length bytes))
    (take (record_place l place) bytes ++ (record_bytes l (packed (with_offset end r)) ++ drop (record_place l place + record_size l) bytes))
    bytes)
    bytes)
    bytes

-- One record, after what is said so far.
abbrev pub visited_at : Layout → Said → List ℕ → ℕ → FrameRecord → State
visited_at l (accepted end) bytes place r =
    let says = checked end place r in
    record { says = says; bytes = leaves says (record_written l place end r bytes) bytes }
visited_at l (refused n) bytes place r = record { says = refused n; bytes = bytes }
visited_at l (refused_at n at) bytes place r = record { says = refused_at n at; bytes = bytes }

abbrev pub visited : Layout → State → ℕ → FrameRecord → State
visited l z place r = visited_at l z.says z.bytes place r

-- The records from a place on.
unfoldable pub walked : Layout → List FrameRecord → ℕ → State → State
walked l [] place z = z
walked l (r ∷ rs) place z = walked l rs (place + 1) (visited l z place r)

-- A refusal, with the destination as it is.
abbrev pub stopped : Said → List ℕ → State
stopped why bytes = record { says = why; bytes = bytes }

-- Between the passes: 3, what the first pass found, 14, 11, and the header.
abbrev pub begun : Layout → ℕ → ℕ → Said → List ℕ → State
begun l count shop (accepted pixels) bytes =
    cond (ltb length_limit (pixels_from l count + pixels)) (stopped (refused 14) bytes)
    (cond (eqb (length bytes) (pixels_from l count + pixels))
    (starts (pixels_from l count) (header_bytes l (header_for l count shop (pixels_from l count + pixels)) ++ drop (header_size l) bytes))
    (stopped (refused 11) bytes))
begun l count shop (refused n) bytes = stopped (refused n) bytes
begun l count shop (refused_at n at) bytes = stopped (refused_at n at) bytes

unfoldable pub readied : Layout → ℕ → ℕ → Said → List ℕ → State
readied l count shop says bytes = cond (ltb frame_limit count) (stopped (refused 3) bytes) (begun l count shop says bytes)

-- The whole.
unfoldable pub laid : List FrameRecord → ℕ → List ℕ → State
laid rs shop bytes = walked Plain rs 0 (readied Plain (length rs) shop (records_say (accepted (summed 0 rs)) 0 rs) bytes)
