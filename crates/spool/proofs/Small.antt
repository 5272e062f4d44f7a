-- What Open and Find can say of a file of bytes: refusals of few digits, and a record's numbers by their widths.
-- Assumes nothing.
use Prim.Native.Nat.{ℕ, ◌+◌, ◌*◌}
use native.Mathlib.Omega.{arith}
use mathlib.Core.Bool.{Bool, not, ◌||◌}
use mathlib.Core.List.{List}
use lib.ListN.{length}
use lib.Dec.{eqb, ltb}
use Rattle.numbers.specs.Bytes.{AllBytes}
use Rattle.refusal.specs.Answers.{sound}
use Rattle.refusal.proofs.Verdicts.{TwoDigits, test_short, either_short}
use Rattle.records.specs.Layout.{layout_of, header_size, record_size, header_of}
use Rattle.records.specs.Faults.{frame_limit, record_fault, stride_fault}
use Rattle.records.proofs.Small.{Small, record_small, dropped, record_fault_short, stride_fault_short}
use Rattle.spool.specs.Open.{header_fault, open_fault, table_end}
use Rattle.spool.specs.Find.{frame_fault, find_fault, pixels_outside, record_at}

pub open_fault_short : (file : List ℕ) → TwoDigits (open_fault file)
unfolding open_fault header_fault
open_fault_short file =
    let l = layout_of file in
    let h = header_of file in
    test_short (ltb (length file) (header_size l)) 1 _ (omega arith)
    (test_short (not (eqb h.length (length file))) 2 _ (omega arith)
    (test_short (not (eqb h.size (record_size l))) 20 _ (omega arith)
    (test_short (ltb frame_limit h.count) 3 _ (omega arith)
    (test_short (ltb h.table (header_size l) || ltb (length file) (table_end l h)) 4 sound (omega arith) tt))))

pub find_fault_short : (gapsTaken : Bool) (file : List ℕ) (k : ℕ) → TwoDigits (find_fault gapsTaken file k)
unfolding find_fault frame_fault
find_fault_short gapsTaken file k =
    let s = record_at file k in
    either_short (open_fault file) _ (open_fault_short file)
    (test_short (not (ltb k (header_of file).count)) 5 _ (omega arith)
    (either_short (record_fault s.frame) _ (record_fault_short s.frame)
    (either_short (stride_fault gapsTaken s) _ (stride_fault_short gapsTaken s) (test_short (pixels_outside file s) 8 sound (omega arith) tt))))

pub record_at_small : (file : List ℕ) → AllBytes file → (k : ℕ) → Small (record_at file k).frame
unfolding record_at
record_at_small file all k =
    let at = (header_of file).table + record_size (layout_of file) * k in
    record_small (layout_of file) _ (dropped at file all)
