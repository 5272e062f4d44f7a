-- What is read from bytes is small: the numbers of a record by their widths, and the shop; and so are the refusals of a record.
-- Assumes nothing.
use Prim.Native.Nat.{ℕ, zero, suc, ◌+◌, ◌^◌, ◌<◌}
use native.Mathlib.Omega.{arith}
use mathlib.Core.Bool.{Bool, cond, not, ◌||◌, ◌&&◌}
use lib.Dec.{ltb}
use mathlib.Core.List.{List, [], ◌∷◌}
use lib.ListN.{get_or, drop}
use lib.Seq.{get_or-drop}
use Rattle.numbers.specs.Bytes.{AllBytes}
use Rattle.numbers.proofs.Bytes.{number_below}
use Rattle.refusal.specs.Answers.{sound, faulty}
use Rattle.refusal.proofs.Verdicts.{TwoDigits, test_short}
use Rattle.records.specs.declared.FrameRecord.{FrameRecord}
use Rattle.records.specs.Fields.{numbers_in}
use Rattle.records.specs.declared.StridedRecord.{StridedRecord}
use Rattle.records.specs.declared.Layout.{Layout}
use Rattle.records.specs.declared.Layout.TheVariants.{Plain, Strided}
use Rattle.records.specs.Layout.{header_widths, frame_widths, frame_numbers, header_in, record_in}
use Rattle.records.specs.Pixels.{row_bytes, has_gaps}
use Rattle.records.specs.Faults.{is_pair, bad_side, record_fault, stride_fault}

pub dropped : (k : ℕ) (bytes : List ℕ) → AllBytes bytes → AllBytes (drop k bytes)
dropped k bytes all i = rw get_or-drop (all (k + i))

numbers-below : (widths bytes : List ℕ) → AllBytes bytes → (i : ℕ) → get_or (numbers_in widths bytes) i 0 < 256 ^ get_or widths i 0
numbers-below [] bytes all i = omega arith
numbers-below (width ∷ widths) bytes all zero = number_below width bytes all
numbers-below (width ∷ widths) bytes all (suc i) = numbers-below widths (drop width bytes) (dropped width bytes all) i

-- A record each number of which has the width of its field.
abbrev pub Small : FrameRecord → Type 0
Small r = (i : ℕ) → get_or (frame_numbers r) i 0 < 256 ^ get_or frame_widths i 0

pub record_small : (l : Layout) (bytes : List ℕ) → AllBytes bytes → Small (record_in l bytes).frame
unfolding record_in
record_small Plain bytes all = numbers-below frame_widths bytes all
record_small Strided bytes all = numbers-below frame_widths bytes all

pub header_small : (l : Layout) (bytes : List ℕ) → AllBytes bytes → (header_in l bytes).shop < 2 ^ 16
unfolding header_in
header_small Plain bytes all = numbers-below (header_widths Plain) bytes all 1
header_small Strided bytes all = numbers-below (header_widths Strided) bytes all 1

pub record_fault_short : (r : FrameRecord) → TwoDigits (record_fault r)
unfolding record_fault
record_fault_short r =
    let size = bad_side r.width || bad_side r.height in
    test_short (not (is_pair r.kind r.bits)) 6 (cond size (faulty 7) sound) (omega arith) (test_short size 7 sound (omega arith) tt)

pub stride_fault_short : (gaps : Bool) (s : StridedRecord) → TwoDigits (stride_fault gaps s)
unfolding stride_fault
stride_fault_short gaps s =
    test_short (ltb s.stride (row_bytes s.frame) || (not gaps && has_gaps s)) 21 sound (omega arith) tt
