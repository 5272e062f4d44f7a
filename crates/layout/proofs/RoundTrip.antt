-- Laying out and then finding gives each record back, with its pixels where they were placed.
-- Assumes nothing.
use Prim.Native.Nat.{ℕ, zero, suc, ◌+◌, ◌*◌, ◌^◌, ◌≤◌, ◌<◌}
use native.Mathlib.Nat.{add-zero, zero-add, add_assoc, mul-zero, mul-suc}
use native.Mathlib.Omega.{arith}
use mathlib.Core.Path.{◌≡◌, refl, sym, ap, ◌∙◌}
use mathlib.Core.Bool.{Bool, true, false, cond}
use mathlib.Core.List.{List, [], ◌∷◌, ◌++◌, append_assoc}
use lib.Dec.{eqb, ltb}
use lib.ListN.{length, get_or, take, drop, length-append}
use lib.Seq.{drop-append-add}
use borrow.Author.Tests.{le-ltb, ltb-false, eqb-true}
use Rattle.refusal.specs.Answers.{sound, accepted, refused}
use Rattle.records.specs.declared.FrameRecord.{FrameRecord}
use Rattle.records.specs.declared.StridedRecord.{StridedRecord}
use Rattle.records.specs.declared.Header.{Header}
use Rattle.records.specs.declared.Layout.{Layout}
use Rattle.records.specs.declared.Layout.TheVariants.{Plain}
use Rattle.records.specs.Layout.{layout_of, header_of, header_in, record_in, header_bytes, record_bytes, header_size, record_size, no_frame, with_offset}
use Rattle.records.specs.Pixels.{pixel_bytes, span_bytes, packed}
use Rattle.records.specs.Faults.{record_fault, frame_limit}
use Rattle.records.proofs.Strides.{gaps_taken, packed-span, sound_height}
use Rattle.spool.specs.Open.{open_fault}
use Rattle.spool.specs.Find.{finds, record_at, pixels_outside, find_says, frame_pixels, pixels_start, pixels_length, FindSaid}
use Rattle.spool.proofs.OpenFaults.{by_header, no_fault}
use Rattle.spool.proofs.FindFaults.{by_record, found}
use Rattle.layout.specs.LayOut.{length_limit, pixels_from, all_pixels, total_length, room_says, layout_says, placed, table_bytes, header_for, spool_bytes, layout_bytes}
use Rattle.layout.specs.RoundTrip.{AllOfWidths, pixel_place, placed_record, HoldsRecords}
use Rattle.layout.proofs.Checking.{Fine, none, one, Checked, at_fault, fine, check}
use Rattle.layout.proofs.Places.{first-place}
use Rattle.layout.proofs.Writing.{over-length, over-drop}
use Rattle.layout.proofs.Written.{record_length}
use Rattle.layout.proofs.Read.{header_back, header_length, layout-back, record_back}

-- What holds where the layout is accepted.
pub record Fits (l : Layout) (rs : List FrameRecord) (room : ℕ) : Type 0 where
  pub few : length rs ≤ frame_limit
  pub good : Fine rs
  pub small : total_length l rs ≤ length_limit
  pub exact : room ≡ total_length l rs

-- A length that is accepted is within the limit, and exact.
pub room-accepted : (total room m : ℕ) → room_says total room ≡ accepted m → (total ≤ length_limit) × (room ≡ total) × (m ≡ total)
room-accepted total room m e = by_tests (ltb length_limit total) (eqb room total) refl refl e where
  by_tests : (a b : Bool) → ltb length_limit total ≡ a → eqb room total ≡ b → cond a (refused 14) (cond b (accepted total) (refused 11)) ≡ accepted m
      → (total ≤ length_limit) × (room ≡ total) × (m ≡ total)
  by_tests true b p q e = let z : ◌≡◌ {A = ℕ} 0 1 = cc in absurd (omega arith)
  by_tests false true p q e = (ltb-false _ _ p, eqb-true _ _ q, cc)
  by_tests false false p q e = let z : ◌≡◌ {A = ℕ} 0 1 = cc in absurd (omega arith)

module _ (rs : List FrameRecord) (room m : ℕ) where
  by_check : length rs ≤ frame_limit → Checked rs 0 → layout_says rs room ≡ accepted m → Fits Plain rs room
  unfolding layout_says
  by_check few (at_fault n at says) e = let f = rw (le-ltb _ _ few, says _) at e in let z : ◌≡◌ {A = ℕ} 0 1 = cc in absurd (omega arith)
  by_check few (fine good says) e =
      let v = room-accepted (total_length Plain rs) room m (rw (le-ltb _ _ few, says _) at e) in
      record { few = few; good = good; small = v.0; exact = v.1 }

  by_count : (b : Bool) → ltb frame_limit (length rs) ≡ b → layout_says rs room ≡ accepted m → Fits Plain rs room
  unfolding layout_says
  by_count true q e = let f = rw q at e in let z : ◌≡◌ {A = ℕ} 0 1 = cc in absurd (omega arith)
  by_count false q e = by_check (ltb-false _ _ q) (check rs 0) e

-- Placed records: how many, which is the k-th, and that they fit.
pub placed-length : (rs : List FrameRecord) (at : ℕ) → length (placed at rs) ≡ length rs
placed-length [] at = refl
placed-length (r ∷ rs) at = ap suc (placed-length rs (at + pixel_bytes r))

pub placed_at : (rs : List FrameRecord) (at k : ℕ) → k < length rs → get_or (placed at rs) k no_frame ≡ with_offset (at + all_pixels (take k rs)) (get_or rs k no_frame)
placed_at [] at k l = absurd (omega arith)
placed_at (r ∷ rs) at zero l = rw (add-zero at)
placed_at (r ∷ rs) at (suc k) l = placed_at rs (at + pixel_bytes r) k (omega arith) ∙ ap (λ (n : ℕ). with_offset n (get_or rs k no_frame)) (add_assoc at (pixel_bytes r) (all_pixels (take k rs)))

pub placed-fits : (rs : List FrameRecord) (at : ℕ) → AllOfWidths rs → at + all_pixels rs ≤ length_limit → AllOfWidths (placed at rs)
placed-fits [] at h small = tt
placed-fits (r ∷ rs) at h small = ((omega arith, h.0.1), placed-fits rs (at + pixel_bytes r) h.1 (omega arith))

table_length : (l : Layout) (rs : List FrameRecord) → length (table_bytes l rs) ≡ record_size l * length rs
table_length l [] = sym (mul-zero (record_size l))
table_length l (r ∷ rs) =
    let more = table_length l rs in
    let one : length (record_bytes l (packed r)) ≡ record_size l = record_length l (packed r) in
    let step = mul-suc (record_size l) (length rs) in
    simp length-append (rw one (omega (arith, more, step)))

-- Header and table end where the pixels start.
pub front_length : (l : Layout) (rs : List FrameRecord) (h : Header) → length (header_bytes l h ++ table_bytes l (placed (pixels_from l (length rs)) rs)) ≡ pixels_from l (length rs)
front_length l rs h =
    let t = table_length l (placed (pixels_from l (length rs)) rs) in
    let p = placed-length rs (pixels_from l (length rs)) in
    let e = header_length l h in
    simp length-append (rw (e, t, p))

-- The k-th record: its pixels end with those of all, and it is sound.
pixels-within : (rs : List FrameRecord) (k : ℕ) → k < length rs → all_pixels (take k rs) + pixel_bytes (get_or rs k no_frame) ≤ all_pixels rs
pixels-within [] k l = absurd (omega arith)
pixels-within (r ∷ rs) zero l = omega arith
pixels-within (r ∷ rs) (suc k) l = let more = pixels-within rs k (omega arith) in omega arith

pub sound-at : (rs : List FrameRecord) (k : ℕ) → Fine rs → k < length rs → record_fault (get_or rs k no_frame) ≡ sound
sound-at [] k none l = absurd (omega arith)
sound-at (r ∷ rs) zero (one e rest) l = e
sound-at (r ∷ rs) (suc k) (one e rest) l = sound-at rs k rest (omega arith)

pub same-fault : (at : ℕ) (r : FrameRecord) → record_fault (with_offset at r) ≡ record_fault r
unfolding record_fault
same-fault at r = refl

module _ (l : Layout) (rs : List FrameRecord) (shop : ℕ) (old : List ℕ) (fits : Fits l rs (length old)) (each : AllOfWidths rs) (low : shop < 2 ^ 16) where
  abbrev n : ℕ
  n = length rs

  abbrev total : ℕ
  total = total_length l rs

  abbrev table : List ℕ
  table = table_bytes l (placed (pixels_from l n) rs)

  abbrev header : Header
  header = header_for l n shop total

  abbrev head : List ℕ
  head = header_bytes l header

  abbrev tail : List ℕ
  tail = drop (pixels_from l n) old

  abbrev file : List ℕ
  file = spool_bytes l rs shop tail

  room : pixels_from l n ≤ length old
  room = let e = fits.exact in omega arith

  written : 0 + length (head ++ table) ≡ pixels_from l n
  written = zero-add (length (head ++ table)) ∙ front_length l rs header

  file_is : file ≡ (head ++ table) ++ tail
  unfolding spool_bytes
  file_is = sym (append_assoc head table tail)

  pub long : length file ≡ total
  long = ap length file_is ∙ over-length old (head ++ table) 0 (pixels_from l n) written room ∙ fits.exact

  behind : (k : ℕ) → pixels_from l n ≤ k → drop k file ≡ drop k old
  behind k h = ap (drop k) file_is ∙ over-drop old (head ++ table) 0 (pixels_from l n) written room k h

  layout_is : l ≡ layout_of file
  unfolding spool_bytes
  layout_is = sym (layout-back l header (table ++ tail) fits.few)

  header_is : header ≡ header_in l file
  unfolding spool_bytes
  header_is = sym (header_back n shop total fits.few low fits.small (table ++ tail) l)

  file_header : header ≡ header_of file
  file_header = header_is ∙ ap (λ (x : Layout). header_in x file) layout_is

  opens_well : open_fault file ≡ sound
  opens_well =
      let first = first-place l n in
      by_header file layout_is (rw long (omega (arith, first))) header_is
      (no_fault l header (length file) (sym long) refl fits.few (omega arith) (rw long (omega arith)))

  module _ (k : ℕ) (below : k < n) where
    abbrev at : ℕ
    at = pixel_place l rs k

    abbrev r : FrameRecord
    r = with_offset at (get_or rs k no_frame)

    abbrev s : StridedRecord
    s = placed_record l rs k

    record_is : s ≡ record_at file k
    unfolding spool_bytes record_at
    record_is =
        let small : pixels_from l n + all_pixels rs ≤ length_limit = fits.small in
        sym
        (ap (λ (x : Layout). record_in x (drop ((header_in x file).table + record_size x * k) file)) (sym layout_is)
        ∙ ap (λ (h : Header). record_in l (drop (h.table + record_size l * k) file)) (sym header_is)
        ∙ ap (λ (m : ℕ). record_in l (drop (m + record_size l * k) file)) (sym (header_length l header))
        ∙ ap (record_in l) (drop-append-add head (table ++ tail) (record_size l * k))
        ∙ record_back l (placed (pixels_from l n) rs) k tail (placed-fits rs (pixels_from l n) each small) (rw placed-length below)
        ∙ ap packed (placed_at rs (pixels_from l n) k below))

    span-is : span_bytes s ≡ pixel_bytes (get_or rs k no_frame)
    span-is = packed-span r (sound_height r (same-fault at (get_or rs k no_frame) ∙ sound-at rs k fits.good below))

    inside : pixels_outside file s ≡ false
    unfolding pixels_outside
    inside =
        let all = pixels-within rs k below in
        let first = first-place l n in
        let early : header_size (layout_of file) ≤ at = rw (sym layout_is) (omega (arith, first)) in
        let end : at + span_bytes s ≤ length file = rw (long, span-is) (omega (arith, all)) in
        rw (le-ltb at (header_size (layout_of file)) early, le-ltb _ _ end)

    finds_it : find_says file k ≡ finds s
    finds_it =
        sym
        (found true file s (sym (same-fault at (get_or rs k no_frame) ∙ sound-at rs k fits.good below)) (gaps_taken s (omega arith) refl) inside
        ∙ by_record true file k opens_well (rw (← file_header) below) record_is)

    pixels_are : frame_pixels file k ≡ take (pixel_bytes (get_or rs k no_frame)) (drop at old)
    pixels_are =
        ap (λ (f : FindSaid). take (pixels_length f) (drop (pixels_start f) file)) finds_it
        ∙ ap (λ (m : ℕ). take m (drop at file)) span-is
        ∙ ap (take (pixel_bytes (get_or rs k no_frame))) (behind at (omega arith))

  pub holds : HoldsRecords l rs shop old file
  holds = record { layout = sym layout_is; spool = rw (opens_well, ← file_header); frame = finds_it; pixels = pixels_are }

pub round_trip : (rs : List FrameRecord) (shop : ℕ) (found : List ℕ) (m : ℕ) → AllOfWidths rs → shop < 2 ^ 16 → layout_says rs (length found) ≡ accepted m → HoldsRecords Plain rs shop found (layout_bytes rs shop found)
round_trip rs shop found m each low e = holds Plain rs shop found (by_count rs (length found) m (ltb frame_limit (length rs)) refl e) each low
