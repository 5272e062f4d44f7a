-- Two passes lay a spool out: what they leave is what `LayOut` says.
-- Assumes nothing.
use Prim.Native.Nat.{ℕ, ◌+◌, ◌≤◌, ◌<◌}
use native.Mathlib.Nat.{zero-add, add-zero, mul-zero}
use native.Mathlib.Omega.{arith}
use mathlib.Core.Path.{◌≡◌, refl, ap, ap₂, ◌∙◌}
use mathlib.Core.Bool.{Bool, true, false}
use mathlib.Core.List.{List, ◌++◌}
use lib.Dec.{eqb, ltb}
use lib.ListN.{length, take, drop}
use borrow.Author.Tests.{lt-ltb, le-ltb, ltb-true, ltb-false, eqb-true}
use Rattle.std.specs.Prelude.{Option, None, Some}
use Rattle.refusal.specs.Answers.{Answer, Said, accepted, refused, refused_at, at_place, said, leaves}
use Rattle.records.specs.declared.FrameRecord.{FrameRecord}
use Rattle.records.specs.declared.Layout.{Layout}
use Rattle.records.specs.declared.Layout.TheVariants.{Plain}
use Rattle.records.specs.Layout.{header_bytes, header_size, record_size}
use Rattle.records.specs.Faults.{frame_limit}
use Rattle.layout.specs.LayOut.{length_limit, pixels_from, all_pixels, total_length, records_say, layout_says, room_says, placed, table_bytes, header_for, spool_bytes, layout_bytes, record_place}
use Rattle.layout.specs.HowLaidOut.{State, state_of, starts, summed, walked, stopped, readied, laid}
use Rattle.layout.proofs.Checking.{stays_stopped, Fine, Checked, at_fault, fine, check, sum_fits, sum_past}
use Rattle.layout.proofs.Places.{first-place}
use Rattle.layout.proofs.Read.{header_length}
use Rattle.layout.proofs.Writing.{over-length, over-take, over-drop, write_all}

-- What the contract of `lay_out` says.
abbrev pub LaidOut : List FrameRecord → ℕ → List ℕ → Answer → List ℕ → Type 0
LaidOut rs shop old r new = (said r ≡ layout_says rs (length old)) × (new ≡ leaves (layout_says rs (length old)) (layout_bytes rs shop old) old)

-- A state at the end: it says this, and has these bytes.
abbrev pub Ends : State → Said → List ℕ → Type 0
Ends z s d = (z.says ≡ s) × (z.bytes ≡ d)

-- The pass that writes sound records, in either layout.
pub written_out : (l : Layout) (rs : List FrameRecord) (shop : ℕ) (old : List ℕ) → length rs ≤ frame_limit → Fine rs → total_length l rs ≤ length_limit → length old ≡ total_length l rs
    → Ends (walked l rs 0 (starts (pixels_from l (length rs)) (header_bytes l (header_for l (length rs) shop (total_length l rs)) ++ drop (header_size l) old)))
    (accepted (total_length l rs)) (spool_bytes l rs shop (drop (pixels_from l (length rs)) old))
unfolding spool_bytes
written_out l rs shop old few good small room =
    let n = length rs in
    let head = header_bytes l (header_for l n shop (total_length l rs)) in
    let table = table_bytes l (placed (pixels_from l n) rs) in
    let e : 0 + length head ≡ header_size l = zero-add (length head) ∙ header_length l (header_for l n shop (total_length l rs)) in
    let first = first-place l n in
    let h : header_size l ≤ length old = omega (arith, first, room) in
    let d = head ++ drop (header_size l) old in
    let long : length d ≡ length old = over-length old head 0 (header_size l) e h in
    let start : record_place l 0 ≡ header_size l = ap (λ (k : ℕ). header_size l + k) (mul-zero (record_size l)) ∙ add-zero (header_size l) in
    let same : record_place l (0 + n) ≡ pixels_from l n = rw zero-add in
    let all = write_all l rs 0 (pixels_from l n) d good (omega arith) small (rw (same, long, room) (omega arith)) in (
      ap (λ (z : State). z.says) all,
      ap (λ (z : State). z.bytes) all
          ∙ ap₂ (λ (i k : ℕ). take i d ++ (table ++ drop k d)) start same
          ∙ ap (λ (x : List ℕ). x ++ (table ++ drop (pixels_from l n) d)) (over-take old head 0 (header_size l) e h)
          ∙ ap (λ (x : List ℕ). head ++ (table ++ x)) (over-drop old head 0 (header_size l) e h (pixels_from l n) first),
    )

module _ (rs : List FrameRecord) (shop : ℕ) (old : List ℕ) where
  abbrev n : ℕ
  n = length rs

  abbrev total : ℕ
  total = total_length Plain rs

  -- What is said of sound records.
  abbrev verdict : Said
  verdict = room_says total (length old)

  abbrev Right : State → Type 0
  Right z = Ends z (layout_says rs (length old)) (leaves (layout_says rs (length old)) (layout_bytes rs shop old) old)

  right : (s : Said) (z : State) → layout_says rs (length old) ≡ s → Ends z s (leaves s (layout_bytes rs shop old) old) → Right z
  right s z e h = rw e h

  -- The pass that writes, after what stands between the passes, where the first pass says this.
  abbrev rest : Said → State
  rest says = walked Plain rs 0 (readied Plain n shop says old)

  refused_ends : (k : ℕ) (place : Option ℕ) → Ends (walked Plain rs 0 (stopped (at_place k place) old)) (at_place k place) old
  refused_ends k place = let e = stays_stopped Plain rs 0 k place old in (ap (λ (z : State). z.says) e, ap (λ (z : State). z.bytes) e)

  many : (says : Said) → frame_limit < n → Right (rest says)
  unfolding readied layout_says
  many says h = right (refused 3) (rest says) (rw (lt-ltb _ _ h)) (rw (lt-ltb _ _ h) (refused_ends 3 None))

  module _ (few : n ≤ frame_limit) where
    past_limit : length_limit < total → length_limit < pixels_from Plain n + summed 0 rs
    past_limit h = by-sum (ltb length_limit (all_pixels rs)) refl where
      by-sum : (c : Bool) → ltb length_limit (all_pixels rs) ≡ c → length_limit < pixels_from Plain n + summed 0 rs
      by-sum true q = let more = sum_past rs 0 (rw zero-add (ltb-true _ _ q)) in omega arith
      by-sum false q = rw (sum_fits rs 0 (rw zero-add (ltb-false _ _ q)), zero-add) h

    -- Sound records: 14, 11, or the spool.
    sound_records : (a b : Bool) → ltb length_limit total ≡ a → eqb (length old) total ≡ b → Fine rs → ((x : Said) → records_say x 0 rs ≡ x)
        → Right (rest (accepted (summed 0 rs)))
    unfolding readied layout_says
    sound_records true b e f good says =
        let past : length_limit < pixels_from Plain n + summed 0 rs = past_limit (ltb-true _ _ e) in
        right (refused 14) (rest (accepted (summed 0 rs))) (rw (le-ltb _ _ few, says verdict, e))
        (rw (le-ltb _ _ few, lt-ltb _ _ past) (refused_ends 14 None))
    sound_records false true e f good says =
        let fits = ltb-false length_limit total e in
        right (accepted total) (rest (accepted (summed 0 rs))) (rw (le-ltb _ _ few, says verdict, e, f))
        (rw (le-ltb _ _ few, sum_fits rs 0 (omega arith), zero-add, e, f) (written_out Plain rs shop old few good fits (eqb-true _ _ f)))
    sound_records false false e f good says =
        right (refused 11) (rest (accepted (summed 0 rs))) (rw (le-ltb _ _ few, says verdict, e, f))
        (rw (le-ltb _ _ few, sum_fits rs 0 (omega (arith, ltb-false length_limit total e)), zero-add, e, f) (refused_ends 11 None))

    by_check : Checked rs 0 → Right (rest (records_say (accepted (summed 0 rs)) 0 rs))
    unfolding readied layout_says
    by_check (at_fault k at says) =
        right (refused_at k at) (rest (records_say (accepted (summed 0 rs)) 0 rs)) (rw (le-ltb _ _ few, says verdict))
        (rw (says (accepted (summed 0 rs)), le-ltb _ _ few) (refused_ends k (Some at)))
    by_check (fine good says) = rw (says (accepted (summed 0 rs))) (sound_records (ltb length_limit total) (eqb (length old) total) refl refl good says)

  all : (b : Bool) → ltb frame_limit n ≡ b → Right (rest (records_say (accepted (summed 0 rs)) 0 rs))
  all true e = many (records_say (accepted (summed 0 rs)) 0 rs) (ltb-true _ _ e)
  all false e = by_check (ltb-false _ _ e) (check rs 0)

-- What the passes leave, with what stands between them.
module _ (rs : List FrameRecord) (shop : ℕ) (old : List ℕ) (r : Answer) (new : List ℕ) where
  all_laid : state_of r new ≡ laid rs shop old → LaidOut rs shop old r new
  unfolding laid
  all_laid e =
      let ends = all rs shop old (ltb frame_limit (length rs)) refl in
      (ap (λ (z : State). z.says) e ∙ ends.0, ap (λ (z : State). z.bytes) e ∙ ends.1)

  pub is-laid : {says : Said} {z : State} → says ≡ records_say (accepted (summed 0 rs)) 0 rs → z ≡ readied Plain (length rs) shop says old → state_of r new ≡ walked Plain rs 0 z → LaidOut rs shop old r new
  unfolding laid
  is-laid checked ready written = all_laid (written ∙ ap (walked Plain rs 0) (ready ∙ ap (λ (s : Said). readied Plain (length rs) shop s old) checked))
