-- The frames' pixels one after another, frame by frame and row by row.
-- Assumes nothing.
use Prim.Native.Nat.{ℕ, zero, suc, ◌+◌, ◌*◌, ◌≤◌, ◌<◌}
use native.Mathlib.Omega.{arith}
use native.Mathlib.Nat.{add-zero, mul-le-mul_right, add-mul, one-mul}
use mathlib.Core.Path.{◌≡◌, refl, sym, ap, ◌∙◌}
use mathlib.Core.Bool.{Bool, true, false, cond}
use mathlib.Core.List.{List, [], ◌∷◌, ◌++◌}
use lib.Dec.{ltb}
use lib.ListN.{get_or, take, drop}
use lib.Seq.{take-take, take_at, drop-drop, drop-append-add}
use borrow.Author.Tests.{ltb-true}
use Rattle.refusal.specs.Answers.{sound}
use Rattle.records.specs.declared.FrameRecord.{FrameRecord}
use Rattle.records.specs.declared.StridedRecord.{StridedRecord}
use Rattle.records.specs.Layout.{header_of, no_frame}
use Rattle.records.specs.Pixels.{row_bytes, pixel_bytes}
use Rattle.spool.specs.Open.{open_fault}
use Rattle.spool.specs.Find.{FindSaid, finds, record_at, find_says, frame_pixels}
use Rattle.spool.specs.Rows.{row_of_said, extent_of, frame_row}
use Rattle.layout.specs.LayOut.{all_pixels}
use Rattle.relayout.specs.Relayout.{records_from, frame_pixels_from}
use Rattle.relayout.proofs.Frames.{AllSound, now_sound, later-sound, frame-length}

-- Record i of those from frame k on.
pub records_at : (file : List ℕ) (left k i : ℕ) → i < left → get_or (records_from file left k) i no_frame ≡ (record_at file (k + i)).frame
unfolding records_from
records_at file zero k i below = absurd (omega arith)
records_at file (suc left) k zero below = ap (λ (n : ℕ). (record_at file n).frame) (sym (add-zero k))
records_at file (suc left) k (suc i) below =
    let next : k + 1 + i ≡ k + suc i = omega arith in
    records_at file left (k + 1) i (omega arith) ∙ ap (λ (n : ℕ). (record_at file n).frame) next

-- The pixels of frame i among those from frame k on.
pub pixels-at : (file : List ℕ) (left k i : ℕ) → open_fault file ≡ sound → k + left ≤ (header_of file).count → AllSound file left k → i < left
    → take (pixel_bytes (record_at file (k + i)).frame) (drop (all_pixels (take i (records_from file left k))) (frame_pixels_from file left k)) ≡ frame_pixels file (k + i)
unfolding records_from frame_pixels_from
pixels-at file zero k i opens few all below = absurd (omega arith)
pixels-at file (suc left) k zero opens few all below =
    let start : k + 0 ≡ k = add-zero k in
    let long = frame-length file k opens (omega arith) (now_sound file left k all) in
    rw start (take_at (frame_pixels file k) (frame_pixels_from file left (k + 1)) (pixel_bytes (record_at file k).frame) long)
pixels-at file (suc left) k (suc i) opens few all below =
    let long = frame-length file k opens (omega arith) (now_sound file left k all) in
    let next : k + suc i ≡ k + 1 + i = omega arith in
    let before = all_pixels (take i (records_from file left (k + 1))) in
    let rest = frame_pixels_from file left (k + 1) in
    rw next
    (ap (λ (n : ℕ). take (pixel_bytes (record_at file (k + 1 + i)).frame) (drop (n + before) (frame_pixels file k ++ rest))) (sym long)
    ∙ ap (take (pixel_bytes (record_at file (k + 1 + i)).frame)) (drop-append-add (frame_pixels file k) rest before)
    ∙ pixels-at file left (k + 1) i opens (omega arith) (later-sound file left k all) (omega arith))

-- A part of the first n is that part of all.
take_within : (m a n : ℕ) (xs : List ℕ) → a + m ≤ n → take m (drop a (take n xs)) ≡ take m (drop a xs)
take_within m zero n xs h = take-take m n xs (omega arith)
take_within m (suc a) zero xs h = absurd (omega arith)
take_within m (suc a) (suc n) [] h = refl
take_within m (suc a) (suc n) (x ∷ xs) h = take_within m a n xs (omega arith)

-- Row j of rows without gaps, from where they start.
pub row-of : (row height base j : ℕ) (xs : List ℕ) → j < height → take row (drop (base + j * row) xs) ≡ take row (drop (j * row) (take (height * row) (drop base xs)))
row-of row height base j xs below =
    let end : j * row + row ≤ height * row = rw (sym (ap (λ (n : ℕ). j * row + n) (one-mul row)), sym (add-mul j 1 row)) (mul-le-mul_right row (omega arith)) in
    ap (take row) (sym (drop-drop (j * row) base xs)) ∙ sym (take_within row (j * row) (height * row) (drop base xs) end)

-- So a row of a frame without gaps is a part of the frame's pixels.
abbrev row_in : FrameRecord → ℕ → List ℕ → List ℕ
row_in r j pixels = take (row_bytes r) (drop (j * row_bytes r) pixels)

module _ (file : List ℕ) (k : ℕ) (s : StridedRecord) (j : ℕ) (says : find_says file k ≡ finds s) (free : (i : ℕ) → i < s.frame.height → i * s.stride ≡ i * row_bytes s.frame) where
  abbrev pixels : List ℕ
  pixels = take (pixel_bytes s.frame) (drop s.frame.offset file)

  pub row_is : (b : Bool) → ltb j s.frame.height ≡ b → frame_row file k j ≡ cond b (row_in s.frame j pixels) []
  row_is true e =
      let below = ltb-true _ _ e in
      ap (λ (f : FindSaid). extent_of (row_of_said f j) file) says
      ∙ rw e (ap (λ (n : ℕ). take (row_bytes s.frame) (drop (s.frame.offset + n) file)) (free j below))
      ∙ row-of (row_bytes s.frame) s.frame.height s.frame.offset j file below
  row_is false e = ap (λ (f : FindSaid). extent_of (row_of_said f j) file) says ∙ rw e
