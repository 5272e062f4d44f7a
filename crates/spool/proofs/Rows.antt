-- Where the rows of a frame lie: by its height, and inside the file.
-- Assumes nothing.
use Prim.Native.Nat.{ℕ, ◌+◌, ◌-◌, ◌*◌, ◌≤◌, ◌<◌}
use native.Mathlib.Omega.{arith}
use native.Mathlib.Nat.{mul-le-mul_right, add-sub_cancel_left}
use mathlib.Core.Path.{◌≡◌, refl, sym, ap, ◌∙◌}
use mathlib.Core.Bool.{Bool, true, false}
use mathlib.Core.List.{List}
use lib.Dec.{ltb}
use lib.ListN.{length, take, drop}
use borrow.Author.Tests.{lt-ltb, ltb-true}
use Rattle.records.specs.declared.StridedRecord.{StridedRecord}
use Rattle.records.specs.Pixels.{row_bytes, span_bytes}
use Rattle.spool.specs.declared.Extent.{Extent}
use Rattle.spool.specs.Find.{FindSaid, finds, find_says, pixel_end}
use Rattle.spool.proofs.FindFaults.{pixels_inside}
use Rattle.spool.specs.Rows.{row_extent, row_of_said, extent_of, frame_row}

module _ (s : StridedRecord) (j : ℕ) where
  pub one-row : {n : ℕ} → j < s.frame.height → n ≡ row_bytes s.frame → record { start = s.frame.offset + j * s.stride; length = n } ≡ row_extent s j
  one-row below e = rw (lt-ltb _ _ below, e)

  -- A row ends no later than the last one.
  pub row_within : j < s.frame.height → j * s.stride + row_bytes s.frame ≤ span_bytes s
  row_within below =
      let before : j * s.stride ≤ (s.frame.height - 1) * s.stride = mul-le-mul_right s.stride (omega arith) in
      omega (arith, before)

  pub row_inside : (file : List ℕ) → pixel_end s ≤ length file → (row_extent s j).start + (row_extent s j).length ≤ length file
  row_inside file inside = by_test (ltb j s.frame.height) refl where
    by_test : (b : Bool) → ltb j s.frame.height ≡ b → (row_extent s j).start + (row_extent s j).length ≤ length file
    by_test true e = let within = row_within (ltb-true _ _ e) in rw e (omega (arith, inside, within))
    by_test false e = rw e (omega arith)

-- A row of a frame that is found ends with the file at the latest.
pub found_row_inside : (file : List ℕ) (k j : ℕ) {s : StridedRecord} → finds s ≡ find_says file k → (row_extent s j).start + (row_extent s j).length ≤ length file
found_row_inside file k j {s} said = row_inside s j file (pixels_inside file k said)

-- The row of a frame that is found.
pub row-there : (file : List ℕ) (k j : ℕ) {s : StridedRecord} {e : Extent} → find_says file k ≡ finds s → e ≡ row_extent s j
    → take (e.start + e.length - e.start) (drop e.start file) ≡ frame_row file k j
row-there file k j {s} {e} said is =
    ap (λ (n : ℕ). take n (drop e.start file)) (add-sub_cancel_left e.start e.length)
    ∙ ap (λ (x : Extent). extent_of x file) is
    ∙ ap (λ (f : FindSaid). extent_of (row_of_said f j) file) (sym said)
