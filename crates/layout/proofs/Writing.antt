-- What the pass that writes leaves: the table, with the pixels placed one after another.
-- Assumes nothing.
use Prim.Native.Nat.{ℕ, suc, ◌+◌, ◌-◌, ◌≤◌, ◌<◌}
use native.Mathlib.Nat.{add-zero, add_assoc, add-sub_of_le, le_trans}
use native.Mathlib.Omega.{arith}
use mathlib.Core.Path.{◌≡◌, sym, ap, ap₂, ◌∙◌}
use mathlib.Core.List.{List, [], ◌∷◌, ◌++◌, append_assoc}
use lib.ListN.{length, take, drop, length-append, length-take, length-drop, take-append-drop}
use lib.Seq.{take_at, drop_at, drop-drop}
use borrow.Author.Tests.{le-ltb}
use Rattle.refusal.specs.Answers.{sound}
use Rattle.records.specs.declared.FrameRecord.{FrameRecord}
use Rattle.records.specs.declared.Layout.{Layout}
use Rattle.records.specs.Layout.{record_bytes, with_offset}
use Rattle.records.specs.Pixels.{pixel_bytes, packed}
use Rattle.records.specs.Faults.{record_fault, frame_limit}
use Rattle.layout.specs.LayOut.{all_pixels, placed, table_bytes, length_limit, record_place}
use Rattle.layout.specs.HowLaidOut.{starts, visited, walked}
use Rattle.layout.proofs.Written.{record_length, in_place}
use Rattle.layout.proofs.Checking.{Fine, none, one}
use Rattle.layout.proofs.Places.{next_place, later-place}

-- Bytes written over a list from `at` to `end`: how long the list is, and what stands before and behind their end.
abbrev pub over : List ℕ → List ℕ → ℕ → ℕ → List ℕ
over d b at end = take at d ++ (b ++ drop end d)

module _ (d b : List ℕ) (at end : ℕ) (e : at + length b ≡ end) (h : end ≤ length d) where
  parts : over d b at end ≡ (take at d ++ b) ++ drop end d
  parts = sym (append_assoc (take at d) b (drop end d))

  front : length (take at d ++ b) ≡ end
  front = simp (length-append, length-take) (omega arith)

  pub over-length : length (over d b at end) ≡ length d
  over-length = ap length parts ∙ simp (length-append, length-take, length-drop) (omega arith)

  pub over-take : take end (over d b at end) ≡ take at d ++ b
  over-take = ap (take end) parts ∙ take_at (take at d ++ b) (drop end d) end front

  pub over-drop : (k : ℕ) → end ≤ k → drop k (over d b at end) ≡ drop k d
  over-drop k l =
      ap (λ (m : ℕ). drop m (over d b at end)) (sym (add-sub_of_le l))
      ∙ sym (drop-drop (k - end) end (over d b at end))
      ∙ ap (drop (k - end)) (ap (drop end) parts ∙ drop_at (take at d ++ b) (drop end d) end front)
      ∙ drop-drop (k - end) end d
      ∙ ap (λ (m : ℕ). drop m d) (add-sub_of_le l)

-- One record written, where it is sound and fits.
module _ (l : Layout) (r : FrameRecord) (i end : ℕ) (d : List ℕ) (few : i < frame_limit) (small : end ≤ length_limit) (room : record_place l (i + 1) ≤ length d) where
  write-one : record_fault r ≡ sound → visited l (starts end d) i r
      ≡ starts (end + pixel_bytes r) (over d (record_bytes l (packed (with_offset end r))) (record_place l i) (record_place l (i + 1)))
  write-one good =
      rw (good, le-ltb _ _ small)
      (ap (λ (b : List ℕ). starts (end + pixel_bytes r) b)
      (in_place l i end r d few small (rw (next_place l i) room) ∙ ap (λ (k : ℕ). take (record_place l i) d ++ (record_bytes l (packed (with_offset end r)) ++ drop k d)) (next_place l i)))

pub write_all : (l : Layout) (rs : List FrameRecord) (i end : ℕ) (d : List ℕ) → Fine rs → i + length rs ≤ frame_limit → end + all_pixels rs ≤ length_limit → record_place l (i + length rs) ≤ length d
    → walked l rs i (starts end d)
    ≡ starts (end + all_pixels rs) (take (record_place l i) d ++ (table_bytes l (placed end rs) ++ drop (record_place l (i + length rs)) d))
unfolding walked
write_all l [] i end d none few small room =
    rw (add-zero end, add-zero i) (ap (λ (b : List ℕ). starts end b) (sym (take-append-drop (record_place l i) d)))
write_all l (r ∷ rs) i end d (one good rest) few small room =
    let low : i < frame_limit = omega arith in
    let fits : end ≤ length_limit = omega arith in
    let step : i + 1 + length rs ≡ i + suc (length rs) = omega arith in
    let further : record_place l (i + 1) ≤ record_place l (i + suc (length rs)) = later-place l (omega arith) in
    let next : record_place l (i + 1) ≤ length d = le_trans further room in
    let b = record_bytes l (packed (with_offset end r)) in
    let e : record_place l i + length b ≡ record_place l (i + 1) = rw (record_length l (packed (with_offset end r))) (next_place l i) in
    let d' = over d b (record_place l i) (record_place l (i + 1)) in
    let long : length d' ≡ length d = over-length d b (record_place l i) (record_place l (i + 1)) e next in
    let more : record_place l (i + 1 + length rs) ≤ length d' = rw (long, step) room in
    ap (walked l rs (i + 1)) (write-one l r i end d low fits next good)
    ∙ write_all l rs (i + 1) (end + pixel_bytes r) d' rest (omega arith) (omega arith) more
    ∙ ap₂ (λ (n : ℕ) (x : List ℕ). starts n x) (add_assoc end (pixel_bytes r) (all_pixels rs))
    (ap (λ (x : List ℕ). x ++ (table_bytes l (placed (end + pixel_bytes r) rs) ++ drop (record_place l (i + 1 + length rs)) d')) (over-take d b (record_place l i) (record_place l (i + 1)) e next)
    ∙ ap (λ (x : List ℕ). (take (record_place l i) d ++ b) ++ (table_bytes l (placed (end + pixel_bytes r) rs) ++ x)) (over-drop d b (record_place l i) (record_place l (i + 1)) e next (record_place l (i + 1 + length rs)) (rw step further))
    ∙ ap (λ (k : ℕ). (take (record_place l i) d ++ b) ++ (table_bytes l (placed (end + pixel_bytes r) rs) ++ drop (record_place l k) d)) step
    ∙ simp append_assoc)
