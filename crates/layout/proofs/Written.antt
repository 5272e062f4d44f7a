-- What storing a record and one record's visit leave.
-- Assumes nothing.
use Prim.Native.Nat.{ℕ, ◌+◌, ◌-◌, ◌≤◌, ◌<◌}
use native.Mathlib.Omega.{arith}
use mathlib.Core.Path.{◌≡◌, refl, sym, ap, ap₂, ◌∙◌}
use mathlib.Core.List.{List, ◌++◌}
use lib.ListN.{length, take, drop}
use lib.Seq.{drop-drop}
use borrow.Rule.Slice.PartMut.{put_mid}
use borrow.Author.Tests.{lt-ltb, le-leb}
use Rattle.records.specs.declared.FrameRecord.{FrameRecord}
use Rattle.records.specs.declared.StridedRecord.{StridedRecord}
use Rattle.records.specs.declared.Layout.{Layout}
use Rattle.records.specs.declared.Layout.TheVariants.{Plain, Strided}
use Rattle.records.proofs.Layouts.{record_prefix}
use Rattle.records.specs.Layout.{record_size, with_offset, record_bytes}
use Rattle.records.specs.Pixels.{packed}
use Rattle.records.specs.Faults.{frame_limit}
use Rattle.layout.specs.LayOut.{length_limit, record_place}
use Rattle.layout.specs.HowLaidOut.{record_written}

pub record_length : (l : Layout) (s : StridedRecord) → length (record_bytes l s) ≡ record_size l
record_length Plain s = refl
record_length Strided s = refl

-- The record's bytes that stand at the start of the strided ones.
module _ (l : Layout) (s : StridedRecord) {size : ℕ} {full : List ℕ} (e : size ≡ record_size l) (is : full ≡ record_bytes Strided s) where
  -- As many of them as a record of the layout has are the record.
  pub record_taken : take size full ≡ record_bytes l s
  record_taken = ap₂ take e is ∙ record_prefix l s

module _ (l : Layout) (place end : ℕ) (r : FrameRecord) (d : List ℕ) where
  pub in_place : place < frame_limit → end ≤ length_limit → record_place l place + record_size l ≤ length d
      → record_written l place end r d ≡ take (record_place l place) d ++ (record_bytes l (packed (with_offset end r)) ++ drop (record_place l place + record_size l) d)
  unfolding record_written
  in_place h e s = simp (lt-ltb _ _ h, le-leb _ _ e, le-leb _ _ s)

  -- The bytes of the record, written to exactly its place.
  pub puts_record : {at size : ℕ} {part : List ℕ} → at ≡ record_place l place → size ≡ record_size l → place < frame_limit → end ≤ length_limit → at + size ≤ length d
      → part ≡ record_bytes l (packed (with_offset end r)) → put_mid at (at + size - at) d part ≡ record_written l place end r d
  puts_record {at} {size} {part} e f h low room is =
      ap₂ (λ (x y : List ℕ). take at d ++ (x ++ y)) is (drop-drop (at + size - at) at d ∙ ap (λ (n : ℕ). drop n d) (omega arith))
      ∙ ap₂ (λ (a n : ℕ). take a d ++ (record_bytes l (packed (with_offset end r)) ++ drop (a + n) d)) e f
      ∙ sym (in_place h low (rw (e, f) at room))
