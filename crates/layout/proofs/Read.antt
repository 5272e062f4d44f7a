-- Numbers written as bytes and read back.
-- Assumes nothing.
use Prim.Native.Nat.{ℕ, zero, suc, ◌+◌, ◌*◌, ◌/◌, ◌^◌, ◌≤◌, ◌<◌}
use native.Mathlib.Omega.{arith}
use native.Mathlib.Nat.{lt_of_le_of_lt, add_comm, mul-zero, mul-suc}
use mathlib.Core.Path.{◌≡◌, refl, sym, ap, ap₂, ◌∙◌}
use mathlib.Core.List.{List, [], ◌∷◌, ◌++◌, append_assoc}
use lib.Dec.{lit<}
use lib.ListN.{length, take, drop, get_or, length-append}
use lib.Seq.{take_at, drop_at, drop-append-add}
use Rattle.numbers.specs.Bytes.{little_endian, low_bytes}
use Rattle.numbers.proofs.Bytes.{held}
use Rattle.records.specs.declared.FrameRecord.{FrameRecord}
use Rattle.records.specs.Fields.{numbers_in, field_bytes}
use Rattle.records.specs.declared.Header.{Header}
use Rattle.records.specs.declared.Layout.{Layout}
use Rattle.records.specs.declared.Layout.TheVariants.{Plain, Strided}
use Rattle.records.specs.Layout.{header_widths, frame_widths, record_widths, frame_numbers, header_numbers, record_numbers, header_from, record_from, header_in, record_in, header_bytes, record_bytes, header_size, record_size, no_frame, layout_of}
use Rattle.records.specs.Pixels.{row_bytes, packed}
use Rattle.records.specs.Faults.{frame_limit}
use Rattle.records.proofs.Sizes.{row_small}
use Rattle.records.proofs.Layouts.{marked, unmarked}
use Rattle.layout.specs.LayOut.{length_limit, header_for, table_bytes}
use Rattle.layout.proofs.Written.{record_length}
use Rattle.layout.specs.RoundTrip.{OfWidths, AllOfWidths}

low-length : (w v : ℕ) → length (low_bytes w v) ≡ w
low-length zero v = refl
low-length (suc w) v = ap suc (low-length w (v / 256))

pub read_back : (ws ns rest : List ℕ) → OfWidths ws ns → numbers_in ws (field_bytes ws ns ++ rest) ≡ ns
read_back [] [] rest h = refl
read_back [] (n ∷ ns) rest h = absurd h
read_back (w ∷ ws) [] rest h = absurd h
read_back (w ∷ ws) (n ∷ ns) rest h =
    let e = append_assoc (low_bytes w n) (field_bytes ws ns) rest in
    let long = low-length w n in
    ap₂ (λ (x : ℕ) (xs : List ℕ). x ∷ xs)
    (ap (λ (b : List ℕ). little_endian (take w b)) e ∙ ap little_endian (take_at (low_bytes w n) (field_bytes ws ns ++ rest) w long) ∙ held w n h.0)
    (ap (λ (b : List ℕ). numbers_in ws (drop w b)) e ∙ ap (numbers_in ws) (drop_at (low_bytes w n) (field_bytes ws ns ++ rest) w long) ∙ read_back ws ns rest h.1)

-- A header.
module _ (count shop total : ℕ) (few : count ≤ frame_limit) (low : shop < 2 ^ 16) (small : total ≤ length_limit) (rest : List ℕ) where
  pub header_back : (l : Layout) → header_in l (header_bytes l (header_for l count shop total) ++ rest) ≡ header_for l count shop total
  unfolding header_in
  header_back Plain =
      ap (header_from Plain) (read_back (header_widths Plain) (count ∷ shop ∷ header_size Plain ∷ total ∷ []) rest (omega arith, (low, (omega arith, (omega arith, tt)))))
  header_back Strided =
      ap (header_from Strided)
      (read_back (header_widths Strided) (header_numbers Strided (header_for Strided count shop total)) rest (omega arith, (low, (omega arith, (omega arith, (omega arith, (omega arith, tt)))))))

pub header_length : (l : Layout) (h : Header) → length (header_bytes l h) ≡ header_size l
header_length Plain h = refl
header_length Strided h = refl

-- The layout of what begins with a header.
pub layout-back : (l : Layout) (h : Header) (rest : List ℕ) → h.count ≤ frame_limit → layout_of (header_bytes l h ++ rest) ≡ l
layout-back l h rest few = by_layout l (first_two l) where
  first_two : (l : Layout) → 2 ≤ length (header_bytes l h ++ rest)
  first_two Plain = simp length-append (omega arith)
  first_two Strided = simp length-append (omega arith)

  by_layout : (l : Layout) → 2 ≤ length (header_bytes l h ++ rest) → layout_of (header_bytes l h ++ rest) ≡ l
  by_layout Plain long =
      let first : little_endian (take 2 (header_bytes Plain h ++ rest)) ≡ h.count = held 2 h.count (omega arith) in
      sym (unmarked (header_bytes Plain h ++ rest) long (λ e. omega (arith, few, sym first ∙ e)))
  by_layout Strided long = sym (marked (header_bytes Strided h ++ rest) long refl)

-- One record, and record k of a table.
pub record_one : (l : Layout) (r : FrameRecord) (rest : List ℕ) → OfWidths frame_widths (frame_numbers r) → record_in l (record_bytes l (packed r) ++ rest) ≡ packed r
unfolding record_in
record_one Plain r rest h = ap record_from (read_back frame_widths (frame_numbers r) rest h)
record_one Strided r rest h =
    let row : row_bytes r < 256 ^ 4 = lt_of_le_of_lt (row_small r h.1.0) (lit< tt) in
    ap record_from
    (read_back (record_widths Strided) (record_numbers (packed r)) rest (h.0, (h.1.0, (h.1.1.0, (h.1.1.1.0, (h.1.1.1.1.0, (h.1.1.1.1.1.0, (h.1.1.1.1.1.1.0, (row, tt)))))))))

pub record_back : (l : Layout) (rs : List FrameRecord) (k : ℕ) (rest : List ℕ) → AllOfWidths rs → k < length rs
    → record_in l (drop (record_size l * k) (table_bytes l rs ++ rest)) ≡ packed (get_or rs k no_frame)
record_back l [] k rest h below = absurd (omega arith)
record_back l (r ∷ rs) zero rest h below =
    let start : record_size l * zero ≡ 0 = mul-zero (record_size l) in
    ap (λ (n : ℕ). record_in l (drop n (table_bytes l (r ∷ rs) ++ rest))) start
    ∙ ap (record_in l) (append_assoc (record_bytes l (packed r)) (table_bytes l rs) rest)
    ∙ record_one l r (table_bytes l rs ++ rest) h.0
record_back l (r ∷ rs) (suc k) rest h below =
    let b = record_bytes l (packed r) in
    let next : record_size l * suc k ≡ length b + record_size l * k = rw (record_length l (packed r)) (mul-suc (record_size l) k ∙ add_comm (record_size l * k) (record_size l)) in
    ap (λ (n : ℕ). record_in l (drop n (table_bytes l (r ∷ rs) ++ rest))) next
    ∙ ap (λ (bytes : List ℕ). record_in l (drop (length b + record_size l * k) bytes)) (append_assoc b (table_bytes l rs) rest)
    ∙ ap (record_in l) (drop-append-add b (table_bytes l rs ++ rest) (record_size l * k))
    ∙ record_back l rs k rest h.1 (omega arith)
