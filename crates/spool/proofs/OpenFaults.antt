-- Which fault a header and a spool have, from the tests that find it.
-- Assumes nothing.
use Prim.Native.Nat.{ℕ, ◌≤◌, ◌<◌}
use native.Mathlib.Omega.{arith}
use mathlib.Core.Path.{◌≡◌, refl, sym}
use mathlib.Core.Bool.{not, ◌||◌}
use mathlib.Core.List.{List}
use lib.ListN.{length}
use lib.Dec.{eqb, ltb}
use borrow.Author.Tests.{lt-ltb, le-ltb, eq-eqb, ne_eqb, ltb-false}
use Rattle.refusal.specs.Answers.{Verdict, sound, faulty}
use Rattle.refusal.proofs.Verdicts.{passed}
use Rattle.records.specs.declared.Header.{Header}
use Rattle.records.specs.declared.Layout.{Layout}
use Rattle.records.specs.Layout.{layout_of, header_of, header_in, header_size, record_size}
use Rattle.records.specs.Faults.{frame_limit}
use Rattle.spool.specs.Open.{opens, refuses_file, header_fault, open_fault, open_by, table_end}
use Rattle.numbers.proofs.Booleans.{or_false}

-- The faults of a header that says the file's length.
module _ (l : Layout) (h : Header) (size : ℕ) (same : h.length ≡ size) where
  pub wrong_record_size : (h.size ≡ record_size l → ⊥) → faulty 20 ≡ header_fault l h size
  unfolding header_fault
  wrong_record_size other = simp (eq-eqb _ _ same, ne_eqb _ _ other)

  module _ (sized : h.size ≡ record_size l) where
    pub too_many : frame_limit < h.count → faulty 3 ≡ header_fault l h size
    unfolding header_fault
    too_many many = simp (eq-eqb _ _ same, eq-eqb _ _ sized, lt-ltb _ _ many)

    module _ (few : h.count ≤ frame_limit) where
      pub table-early : h.table < header_size l → faulty 4 ≡ header_fault l h size
      unfolding header_fault
      table-early early = simp (eq-eqb _ _ same, eq-eqb _ _ sized, le-ltb _ _ few, lt-ltb _ _ early)

      pub no_fault : header_size l ≤ h.table → table_end l h ≤ size → sound ≡ header_fault l h size
      unfolding header_fault
      no_fault behind inside = simp (eq-eqb _ _ same, eq-eqb _ _ sized, le-ltb _ _ few, le-ltb _ _ behind, le-ltb _ _ inside)

-- The fault of a file: its header is missing, or its header's fault.
module _ (file : List ℕ) {l : Layout} (told : l ≡ layout_of file) where
  pub too_short : length file < header_size l → open_fault file ≡ faulty 1
  unfolding open_fault
  too_short short = rw (sym told, lt-ltb _ _ short)

  pub by_header : {h : Header} {v : Verdict} → header_size l ≤ length file → h ≡ header_in l file → v ≡ header_fault l h (length file) → open_fault file ≡ v
  unfolding open_fault
  by_header long read e = rw (sym told, le-ltb _ _ long, sym read, sym e)

-- What holds of a spool that opens.
pub record OpenFile (file : List ℕ) : Type 0 where
  pub long : header_size (layout_of file) ≤ length file
  pub few : (header_of file).count ≤ frame_limit
  pub behind : header_size (layout_of file) ≤ (header_of file).table
  pub inside : table_end (layout_of file) (header_of file) ≤ length file

pub open_file : (file : List ℕ) → open_fault file ≡ sound → OpenFile file
unfolding open_fault header_fault
open_file file e =
    let l = layout_of file in
    let h = header_of file in
    let first = passed (ltb (length file) (header_size l)) 1 _ e in
    let second = passed (not (eqb h.length (length file))) 2 _ first.1 in
    let third = passed (not (eqb h.size (record_size l))) 20 _ second.1 in
    let fourth = passed (ltb frame_limit h.count) 3 _ third.1 in
    let fifth = passed (ltb h.table (header_size l) || ltb (length file) (table_end l h)) 4 sound fourth.1 in
    let both = or_false _ _ fifth.0 in
    record { long = ltb-false _ _ first.0; few = ltb-false _ _ fourth.0; behind = ltb-false _ _ both.0; inside = ltb-false _ _ both.1 }

-- What the answer of Open says of the fault.
pub opens-sound : {count shop table : ℕ} (v : Verdict) (h : Header) → opens count shop table ≡ open_by v h → (v ≡ sound) × (count ≡ h.count) × (shop ≡ h.shop) × (table ≡ h.table)
opens-sound sound h e = (refl, cc, cc, cc)
opens-sound (faulty n) h e = let z : ◌≡◌ {A = ℕ} 0 1 = cc in absurd (omega arith)

pub refused-fault : (k : ℕ) (v : Verdict) (h : Header) → refuses_file k ≡ open_by v h → v ≡ faulty k
refused-fault k sound h e = let z : ◌≡◌ {A = ℕ} 0 1 = cc in absurd (omega arith)
refused-fault k (faulty n) h e = cc
