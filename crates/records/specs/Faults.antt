-- What the records of a spool may say (rules 7.3 and 7.4), and how many there may be (7.2).
-- Assumes nothing.
use Rattle.std.specs.Prelude.{ℕ, ◌<◌, ◌≡◌, ◌⊎◌, Bool, false, cond, not, ◌||◌, ◌&&◌, eqb, ltb, Result, Ok, Err}
use Rattle.refusal.specs.Answers.{Verdict, sound, faulty}
use Rattle.esrgb.specs.Depths.{offered}
use Rattle.refusal.specs.declared.Refusal.{Refusal}
use Rattle.refusal.specs.declared.Refusal.TheVariants.{UnknownKind}
use Rattle.records.specs.declared.Kind.{Kind}
use Rattle.records.specs.declared.Kind.TheVariants.{Srgb, Esrgb, LumaChroma, Esycc, Sycc}
use Rattle.records.specs.declared.FrameRecord.{FrameRecord}
use Rattle.records.specs.declared.StridedRecord.{StridedRecord}
use Rattle.records.specs.Pixels.{row_bytes, has_gaps}

-- Rule 7.2: the most frames that a spool has.
abbrev pub frame_limit : ℕ
frame_limit = 96

-- Rule 7.3: the number of a kind, and what a number names.
abbrev pub kind_number : Kind → ℕ
kind_number Srgb = 1
kind_number Esrgb = 2
kind_number LumaChroma = 3
kind_number Esycc = 4
kind_number Sycc = 5

abbrev pub IsKind : ℕ → Result Kind Refusal → Type 0
IsKind n (Ok kind) = n ≡ kind_number kind
IsKind n (Err r) = ((n ≡ 0) ⊎ (5 < n)) × (r ≡ UnknownKind)

-- Rule 7.3: kinds, with their bits. sRGB and sYCC have 8, and e-sRGB, luma and chroma, and e-sYCC have a depth.
abbrev pub is_pair : ℕ → ℕ → Bool
is_pair kind bits =
    cond (eqb kind 1 || eqb kind 5) (eqb bits 8) (cond (eqb kind 2 || (eqb kind 3 || eqb kind 4)) (offered bits) false)

-- Rule 7.4: the greatest width and height, and a side that no frame has.
abbrev pub side_limit : ℕ
side_limit = 8192

abbrev pub bad_side : ℕ → Bool
bad_side side = eqb side 0 || ltb side_limit side

-- The refusal of a record by kind, bits and size: 6, then 7.
unfoldable pub record_fault : FrameRecord → Verdict
record_fault r =
    cond (not (is_pair r.kind r.bits)) (faulty 6)
    (cond (bad_side r.width || bad_side r.height) (faulty 7)
    sound)

-- The refusal of a record by its stride, 21: it is below a row's own bytes, or, where gaps are not taken, there is one.
unfoldable pub stride_fault : Bool → StridedRecord → Verdict
stride_fault gapsTaken s =
    cond (ltb s.stride (row_bytes s.frame) || (not gapsTaken && has_gaps s)) (faulty 21) sound
