-- Open a spool (rule 7.5).
-- Assumes nothing.
use Rattle.std.specs.Prelude.{ℕ, ◌+◌, ◌*◌, cond, not, ◌||◌, List, length, eqb, ltb, Result, Ok, Err}
use Rattle.refusal.specs.declared.Refusal.{Refusal}
use Rattle.refusal.specs.Refusals.{number_of}
use Rattle.refusal.specs.Answers.{Verdict, sound, faulty}
use Rattle.records.specs.declared.Header.{Header}
use Rattle.records.specs.declared.Layout.{Layout}
use Rattle.spool.specs.declared.Contents.{Contents}
use Rattle.records.specs.Layout.{header_size, record_size, layout_of, header_of}
use Rattle.records.specs.Faults.{frame_limit}

-- The answer: frame count, shop and offset of the table; or the refusal's number alone.
pub data OpenSaid : Type 0 where
  opens : ℕ → ℕ → ℕ → OpenSaid
  refuses_file : ℕ → OpenSaid

abbrev pub open_said : Result Contents Refusal → OpenSaid
open_said (Ok s) = opens s.count s.shop s.table
open_said (Err r) = refuses_file (number_of r)

-- Where the record table of a header ends.
abbrev pub table_end : Layout → Header → ℕ
table_end l h = h.table + record_size l * h.count

-- The first refusal of a header, in a file of so many bytes and in the rule's order: another length than the file's, records of another
-- size, too many frames, a table outside the file or inside the header.
unfoldable pub header_fault : Layout → Header → ℕ → Verdict
header_fault l h size =
    cond (not (eqb h.length size)) (faulty 2)
    (cond (not (eqb h.size (record_size l))) (faulty 20)
    (cond (ltb frame_limit h.count) (faulty 3)
    (cond (ltb h.table (header_size l) || ltb size (table_end l h)) (faulty 4)
    sound)))

-- The first refusal of a file: no room for its layout's header, then that of the header.
unfoldable pub open_fault : List ℕ → Verdict
open_fault file =
    cond (ltb (length file) (header_size (layout_of file))) (faulty 1) (header_fault (layout_of file) (header_of file) (length file))

-- The answer, by the verdict on the file and by its header.
abbrev pub open_by : Verdict → Header → OpenSaid
open_by sound h = opens h.count h.shop h.table
open_by (faulty n) h = refuses_file n

abbrev pub open_says : List ℕ → OpenSaid
open_says file = open_by (open_fault file) (header_of file)
