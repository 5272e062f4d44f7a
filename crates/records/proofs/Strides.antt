-- Which gaps and which fault a stride makes, from the tests that find them.
-- Assumes nothing.
use Prim.Native.Nat.{ℕ, zero, suc, ◌+◌, ◌-◌, ◌*◌, ◌≤◌, ◌<◌}
use mathlib.Core.Path.{◌≡◌, sym, ap, ◌∙◌}
use mathlib.Core.Bool.{Bool, true, false, not, ◌||◌, ◌&&◌}
use lib.Dec.{eqb, ltb}
use native.Mathlib.Omega.{arith}
use native.Mathlib.Nat.{zero-mul, one-mul, add-mul}
use borrow.Author.Tests.{lt-ltb, le-ltb, ltb-false, eqb-false}
use Rattle.numbers.proofs.Booleans.{or_false}
use Rattle.refusal.specs.Answers.{sound, faulty}
use Rattle.refusal.proofs.Verdicts.{passed}
use Rattle.records.specs.declared.FrameRecord.{FrameRecord}
use Rattle.records.specs.declared.StridedRecord.{StridedRecord}
use Rattle.records.specs.Pixels.{row_bytes, pixel_bytes, span_bytes, has_gaps, packed}
use Rattle.records.specs.Faults.{is_pair, bad_side, side_limit, record_fault, stride_fault}

module _ (s : StridedRecord) where
  pub below_row : (gapsTaken : Bool) → s.stride < row_bytes s.frame → faulty 21 ≡ stride_fault gapsTaken s
  unfolding stride_fault
  below_row gapsTaken h = simp (lt-ltb _ _ h)

  module _ (fits : row_bytes s.frame ≤ s.stride) where
    pub gaps_taken : {gapsTaken : Bool} → gapsTaken ≡ true → sound ≡ stride_fault gapsTaken s
    unfolding stride_fault
    gaps_taken e = rw (e, le-ltb _ _ fits)

    pub no_gaps : {gapsTaken : Bool} → gapsTaken ≡ false → has_gaps s ≡ false → sound ≡ stride_fault gapsTaken s
    unfolding stride_fault
    no_gaps e gaps = rw (e, le-ltb _ _ fits, gaps)

-- A sound record has a row.
pub sound_height : (r : FrameRecord) → record_fault r ≡ sound → 1 ≤ r.height
unfolding record_fault
sound_height r e =
    let first = passed (not (is_pair r.kind r.bits)) 6 _ e in
    let second = passed (bad_side r.width || bad_side r.height) 7 sound first.1 in
    let high = or_false (bad_side r.width) (bad_side r.height) second.0 in
    let some = eqb-false r.height 0 (or_false (eqb r.height 0) (ltb side_limit r.height) high.1).0 in
    positive r.height some where
      positive : (n : ℕ) → (n ≡ 0 → ⊥) → 1 ≤ n
      positive n h = omega (arith, h)

-- Rows without gaps take the bytes of their pixels.
pub packed-span : (r : FrameRecord) → 1 ≤ r.height → span_bytes (packed r) ≡ pixel_bytes r
packed-span r h =
    let rows : (r.height - 1) + 1 ≡ r.height = omega arith in
    sym (ap (λ (n : ℕ). n * row_bytes r) (sym rows) ∙ add-mul (r.height - 1) 1 (row_bytes r) ∙ ap (λ (n : ℕ). (r.height - 1) * row_bytes r + n) (one-mul (row_bytes r)))

-- A sound stride is a row's own bytes at least, and no more where gaps are not taken and there is a second row.
pub sound_stride : (gapsTaken : Bool) (s : StridedRecord) → stride_fault gapsTaken s ≡ sound → row_bytes s.frame ≤ s.stride
unfolding stride_fault
sound_stride gapsTaken s e =
    let both = or_false (ltb s.stride (row_bytes s.frame)) (not gapsTaken && has_gaps s) (passed _ 21 sound e).0 in
    ltb-false _ _ both.0

pub gap_free : (s : StridedRecord) → stride_fault false s ≡ sound → 1 < s.frame.height → s.stride ≡ row_bytes s.frame
unfolding stride_fault
gap_free s e more =
    let least : row_bytes s.frame ≤ s.stride = sound_stride false s e in
    let both = or_false (ltb s.stride (row_bytes s.frame)) (has_gaps s) (passed _ 21 sound e).0 in
    let none : ltb (row_bytes s.frame) s.stride ≡ false = rw (lt-ltb _ _ more) at both.1 in
    let most : s.stride ≤ row_bytes s.frame = ltb-false _ _ none in
    omega (arith, least, most)

-- So the rows of such a record are where they would be without gaps, and take the bytes of their pixels.
pub free_row : (s : StridedRecord) → stride_fault false s ≡ sound → (j : ℕ) → j < s.frame.height → j * s.stride ≡ j * row_bytes s.frame
free_row s e zero below = zero-mul s.stride ∙ sym (zero-mul (row_bytes s.frame))
free_row s e (suc j) below = ap (λ (n : ℕ). suc j * n) (gap_free s e (omega arith))

pub free_span : (s : StridedRecord) → record_fault s.frame ≡ sound → stride_fault false s ≡ sound → span_bytes s ≡ pixel_bytes s.frame
free_span s fine e =
    let some = sound_height s.frame fine in
    ap (λ (n : ℕ). n + row_bytes s.frame) (free_row s e (s.frame.height - 1) (omega arith)) ∙ packed-span s.frame some
