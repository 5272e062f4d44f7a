-- A spool carried to the other layout holds the same frames, and so it does when it is carried back.
-- Assumes nothing.
use Prim.Native.Nat.{ℕ, zero, suc, ◌+◌, ◌*◌, ◌^◌, ◌≤◌, ◌<◌}
use native.Mathlib.Omega.{arith}
use native.Mathlib.Nat.{zero-add, le_of_eq}
use mathlib.Core.Path.{◌≡◌, refl, sym, ap, ap₂, subst, ◌∙◌}
use mathlib.Core.Bool.{Bool, true, false, cond}
use mathlib.Core.List.{List, [], ◌∷◌, ◌++◌, append_assoc}
use lib.Dec.{ltb}
use lib.ListN.{length, get_or, take, drop, length-append}
use lib.Seq.{drop_at, drop-append-add, ext_get_or}
use borrow.Author.Tests.{le-ltb, eq-eqb}
use Rattle.numbers.specs.Bytes.{AllBytes}
use Rattle.refusal.specs.Answers.{Verdict, sound, faulty, Said, accepted, refused, refused_at, refuses_or, leaves}
use Rattle.records.specs.declared.FrameRecord.{FrameRecord}
use Rattle.records.specs.declared.StridedRecord.{StridedRecord}
use Rattle.records.specs.declared.Header.{Header}
use Rattle.records.specs.declared.Layout.{Layout}
use Rattle.records.specs.declared.Layout.TheVariants.{Plain, Strided}
use Rattle.records.specs.Layout.{layout_of, other_layout, header_of, header_size, header_bytes, no_frame, with_offset}
use Rattle.records.specs.Pixels.{row_bytes, pixel_bytes, has_gaps, packed}
use Rattle.records.specs.Faults.{stride_fault}
use Rattle.records.proofs.Small.{header_small}
use Rattle.records.proofs.Strides.{free_row, no_gaps}
use Rattle.spool.specs.Open.{opens, open_fault}
use Rattle.spool.specs.Find.{finds, record_at, pixels_outside, frame_fault, find_says, frame_pixels}
use Rattle.spool.specs.Rows.{frame_row}
use Rattle.spool.proofs.OpenFaults.{opens-sound}
use Rattle.spool.proofs.FindFaults.{whole, Whole, sound_record}
use Rattle.spool.proofs.Small.{record_at_small}
use Rattle.layout.specs.LayOut.{length_limit, pixels_from, all_pixels, total_length, room_says, placed, table_bytes, header_for, spool_bytes}
use Rattle.layout.specs.RoundTrip.{AllOfWidths, pixel_place, HoldsRecords}
use Rattle.layout.proofs.RoundTrip.{Fits, room-accepted, front_length, holds, long, placed-length, placed_at, placed-fits}
use Rattle.relayout.specs.Relayout.{target, records_from, records_of, frames_say, relayout_says, pixels_of, relaid}
use Rattle.relayout.specs.Carried.{Carries, There, ThereAndBack, Carried}
use Rattle.relayout.proofs.Frames.{records_length, AllSound, Checked, at_fault, fine, check, nothing_said, pixels-length, found_too, pixels_are}
use Rattle.relayout.proofs.Carrying.{few, records_fine}
use Rattle.relayout.proofs.Parts.{records_at, pixels-at, row_is}

-- What holds of a spool that can be carried: it opens, its frames are sound, and its numbers have the widths of their fields.
record Carriable (file : List ℕ) : Type 0 where
  opened : open_fault file ≡ sound
  all : AllSound file (header_of file).count 0
  low : (header_of file).shop < 2 ^ 16
  each : AllOfWidths (records_of file)

-- ---- the result in a layout

module _ (l : Layout) (file : List ℕ) (c : Carriable file) (small : total_length l (records_of file) ≤ length_limit) where
  abbrev rs : List FrameRecord
  rs = records_of file

  abbrev count : ℕ
  count = (header_of file).count

  abbrev shop : ℕ
  shop = (header_of file).shop

  abbrev header : Header
  header = header_for l (length rs) shop (total_length l rs)

  abbrev front : List ℕ
  front = header_bytes l header ++ table_bytes l (placed (pixels_from l (length rs)) rs)

  abbrev result : List ℕ
  result = spool_bytes l rs shop (pixels_of file)

  -- The same bytes, as a destination that the result is laid out over.
  abbrev old : List ℕ
  old = front ++ pixels_of file

  bytes-length : length (pixels_of file) ≡ all_pixels rs
  bytes-length = pixels-length file count 0 c.opened (le_of_eq (zero-add count)) c.all

  front_is : length front ≡ pixels_from l (length rs)
  front_is = front_length l rs header

  fits : Fits l rs (length old)
  fits = record {
    few = few file c.opened;
    good = records_fine file count 0 c.all;
    small = small;
    exact = length-append front (pixels_of file) ∙ ap₂ (λ (a b : ℕ). a + b) front_is bytes-length;
  }

  spool-is : result ≡ old
  unfolding spool_bytes
  spool-is = sym (append_assoc (header_bytes l header) (table_bytes l (placed (pixels_from l (length rs)) rs)) (pixels_of file))

  same : spool_bytes l rs shop (drop (pixels_from l (length rs)) old) ≡ result
  same = ap (spool_bytes l rs shop) (drop_at front (pixels_of file) (pixels_from l (length rs)) front_is)

  result_length : length result ≡ total_length l rs
  result_length = ap length (sym same) ∙ long l rs shop old fits c.each c.low

  held : HoldsRecords l rs shop old result
  held = subst (HoldsRecords l rs shop old) same (holds l rs shop old fits c.each c.low)

  how_many_lem : length rs ≡ count
  how_many_lem = records_length file count 0

  module _ (k : ℕ) (below : k < count) where
    abbrev s : StridedRecord
    s = record_at file k

    abbrev moved : FrameRecord
    moved = with_offset (pixel_place l rs k) s.frame

    good : frame_fault false file s ≡ sound
    good = ap (λ (i : ℕ). frame_fault false file (record_at file i)) (sym (zero-add k)) ∙ c.all k below

    record_is : get_or rs k no_frame ≡ s.frame
    record_is = records_at file count 0 k below ∙ ap (λ (i : ℕ). (record_at file i).frame) (zero-add k)

    frame_is : find_says result k ≡ finds (packed moved)
    frame_is = held.frame k (rw how_many_lem below) ∙ ap (λ (r : FrameRecord). finds (packed (with_offset (pixel_place l rs k) r))) record_is

    -- The frame's pixels in the result are those in the file.
    pixels-same : take (pixel_bytes s.frame) (drop (pixel_place l rs k) result) ≡ take (pixel_bytes s.frame) (drop s.frame.offset file)
    pixels-same =
        let before = all_pixels (take k rs) in
        let start : k ≡ 0 + k = sym (zero-add k) in
        ap (λ (x : List ℕ). take (pixel_bytes s.frame) (drop (pixel_place l rs k) x)) spool-is
        ∙ ap (λ (n : ℕ). take (pixel_bytes s.frame) (drop (n + before) old)) (sym front_is)
        ∙ ap (take (pixel_bytes s.frame)) (drop-append-add front (pixels_of file) before)
        ∙ ap (λ (i : ℕ). take (pixel_bytes (record_at file i).frame) (drop before (pixels_of file))) start
        ∙ pixels-at file count 0 k c.opened (le_of_eq (zero-add count)) c.all below
        ∙ ap (frame_pixels file) (zero-add k)
        ∙ pixels_are file k c.opened below good

    rows_same : (j : ℕ) → frame_row result k j ≡ frame_row file k j
    rows_same j =
        let test = ltb j s.frame.height in
        row_is result k (packed moved) j frame_is (λ i under. refl) test refl
        ∙ ap (λ (x : List ℕ). cond test (take (row_bytes s.frame) (drop (j * row_bytes s.frame) x)) []) pixels-same
        ∙ sym (row_is file k s j (found_too file k c.opened below good) (free_row s (sound_record false file s good).strides) test refl)

  carries : Carries l file result
  carries = record {
    layout = held.layout;
    spool = held.spool ∙ ap (λ (n : ℕ). opens n shop (header_size l)) how_many_lem;
    frame = frame_is;
    rows = λ k j below. rows_same k below j;
  }

-- ---- what is accepted can be carried

no_accept : (n m : ℕ) → refused n ≡ accepted m → ⊥
no_accept n m e = let z : ◌≡◌ {A = ℕ} 0 1 = cc in omega arith

no_accept_at : (n at m : ℕ) → refused_at n at ≡ accepted m → ⊥
no_accept_at n at m e = let z : ◌≡◌ {A = ℕ} 0 1 = cc in omega arith

opened_first : (v : Verdict) (s : Said) (m : ℕ) → refuses_or v s ≡ accepted m → (v ≡ sound) × (s ≡ accepted m)
opened_first sound s m e = (refl, e)
opened_first (faulty n) s m e = absurd (no_accept n m e)

all_sound : (file : List ℕ) (x : Said) (m : ℕ) → Checked file (header_of file).count 0 → frames_say file x (header_of file).count 0 ≡ accepted m
    → AllSound file (header_of file).count 0 × (x ≡ accepted m)
all_sound file x m (at_fault n at says) e = absurd (no_accept_at n at m (sym (says x) ∙ e))
all_sound file x m (fine all) e = (all, sym (nothing_said file (header_of file).count 0 all x) ∙ e)

records_small : (file : List ℕ) → AllBytes file → (left k : ℕ) → AllOfWidths (records_from file left k)
unfolding records_from
records_small file bytes zero k = tt
records_small file bytes (suc left) k =
    let r = record_at_small file bytes k in
    ((r 0, (r 1, (r 2, (r 3, (r 4, (r 5, (r 6, tt))))))), records_small file bytes left (k + 1))

module _ (file : List ℕ) (room m : ℕ) (bytes : AllBytes file) (e : relayout_says file room ≡ accepted m) where
  accepted_parts : (open_fault file ≡ sound) × (AllSound file (header_of file).count 0 × (room_says (total_length (target file) (records_of file)) room ≡ accepted m))
  unfolding relayout_says
  accepted_parts =
      let first = opened_first (open_fault file) _ m e in
      (first.0, all_sound file _ m (check file (header_of file).count 0) first.1)

  carriable : Carriable file
  carriable = record {
    opened = accepted_parts.0;
    all = accepted_parts.1.0;
    low = header_small (layout_of file) file bytes;
    each = records_small file bytes (header_of file).count 0;
  }

  length-is : (total_length (target file) (records_of file) ≤ length_limit) × (room ≡ total_length (target file) (records_of file)) × (m ≡ total_length (target file) (records_of file))
  length-is = room-accepted (total_length (target file) (records_of file)) room m accepted_parts.1.1

pub there : There
there file room m bytes e =
    let c = carriable file room m bytes e in
    let n = length-is file room m bytes e in
    (result_length (target file) file c n.0 ∙ sym n.2, carries (target file) file c n.0)

-- ---- and back

other_twice : (l : Layout) → other_layout (other_layout l) ≡ l
other_twice Plain = refl
other_twice Strided = refl

all_placed : (rs : List FrameRecord) (at : ℕ) → all_pixels (placed at rs) ≡ all_pixels rs
all_placed [] at = refl
all_placed (r ∷ rs) at = ap (λ (n : ℕ). pixel_bytes r + n) (all_placed rs (at + pixel_bytes r))

before-placed : (k : ℕ) (rs : List FrameRecord) (at : ℕ) → all_pixels (take k (placed at rs)) ≡ all_pixels (take k rs)
before-placed zero all at = refl
before-placed (suc k) [] at = refl
before-placed (suc k) (r ∷ more) at = ap (λ (n : ℕ). pixel_bytes r + n) (before-placed k more (at + pixel_bytes r))

module _ (file : List ℕ) (c : Carriable file) (out : total_length (target file) (records_of file) ≤ length_limit) (home : total_length (layout_of file) (records_of file) ≤ length_limit) where
  abbrev first : List ℕ
  first = relaid file

  abbrev shown : Carries (target file) file first
  shown = carries (target file) file c out

  abbrev all_records : List FrameRecord
  all_records = records_of file

  header_is : (open_fault first ≡ sound) × ((header_of file).count ≡ (header_of first).count) × ((header_of file).shop ≡ (header_of first).shop) × (header_size (target file) ≡ (header_of first).table)
  header_is = opens-sound (open_fault first) (header_of first) (sym shown.spool)

  back_to : target first ≡ layout_of file
  back_to = ap other_layout shown.layout ∙ other_twice (layout_of file)

  module _ (k : ℕ) (below : k < (header_of first).count) where
    abbrev new : FrameRecord
    new = with_offset (pixel_place (target file) all_records k) (record_at file k).frame

    is_whole : Whole true first k (packed new)
    is_whole = whole true first k (packed new) (sym (shown.frame k (rw header_is.1 below)))

    new_record : record_at first k ≡ packed new
    new_record = sym is_whole.read

    still_sound : frame_fault false first (record_at first k) ≡ sound
    unfolding frame_fault pixels_outside
    still_sound =
        let is = is_whole.is-sound in
        let strides : stride_fault false (packed new) ≡ sound = sym (no_gaps (packed new) (omega arith) refl (none new)) in
        rw (new_record, is.fine, strides, le-ltb _ _ is.behind, le-ltb _ _ is.inside)
      where
        none : (r : FrameRecord) → has_gaps (packed r) ≡ false
        none r = by_height (ltb 1 r.height) refl where
          by_height : (b : Bool) → ltb 1 r.height ≡ b → has_gaps (packed r) ≡ false
          by_height true e = rw (e, le-ltb (row_bytes r) (row_bytes r) (le_of_eq refl))
          by_height false e = rw e

  -- The records of the result are those of the file, with their new offsets.
  abbrev moved_records : List FrameRecord
  moved_records = placed (pixels_from (target file) (length all_records)) all_records

  file_many : length all_records ≡ (header_of file).count
  file_many = records_length file (header_of file).count 0

  first_many : length (records_of first) ≡ (header_of first).count
  first_many = records_length first (header_of first).count 0

  records_are : records_of first ≡ moved_records
  records_are =
      ext_get_or no_frame (records_of first) moved_records
      (first_many ∙ sym header_is.1 ∙ sym file_many ∙ sym (placed-length all_records (pixels_from (target file) (length all_records))))
      one_by_one
    where
      one_by_one : (k : ℕ) → k < length (records_of first) → get_or (records_of first) k no_frame ≡ get_or moved_records k no_frame
      one_by_one k below =
          let here : k < (header_of first).count = rw first_many at below in
          let there' : k < (header_of file).count = rw header_is.1 here in
          let among : k < length all_records = rw file_many there' in
          records_at first (header_of first).count 0 k here
          ∙ ap (λ (i : ℕ). (record_at first i).frame) (zero-add k)
          ∙ ap (λ (s : StridedRecord). s.frame) (new_record k here)
          ∙ ap (with_offset (pixel_place (target file) all_records k)) (sym (records_at file (header_of file).count 0 k there' ∙ ap (λ (i : ℕ). (record_at file i).frame) (zero-add k)))
          ∙ sym (placed_at all_records (pixels_from (target file) (length all_records)) k among)

  as_many : length (records_of first) ≡ length all_records
  as_many = ap length records_are ∙ placed-length all_records (pixels_from (target file) (length all_records))

  total_is : (l : Layout) → total_length l (records_of first) ≡ total_length l all_records
  total_is l = ap₂ (λ (n p : ℕ). pixels_from l n + p) as_many (ap all_pixels records_are ∙ all_placed all_records (pixels_from (target file) (length all_records)))

  place_is : (l : Layout) (k : ℕ) → pixel_place l (records_of first) k ≡ pixel_place l all_records k
  place_is l k =
      ap₂ (λ (n p : ℕ). pixels_from l n + p) as_many (ap (λ (x : List FrameRecord). all_pixels (take k x)) records_are ∙ before-placed k all_records (pixels_from (target file) (length all_records)))

  again : Carriable first
  again = record {
    opened = header_is.0;
    all = λ k below. ap (λ (i : ℕ). frame_fault false first (record_at first i)) (zero-add k) ∙ still_sound k below;
    low = rw (sym header_is.2) c.low;
    each = rw records_are (placed-fits all_records (pixels_from (target file) (length all_records)) c.each out);
  }

  fits-back : total_length (target first) (records_of first) ≤ length_limit
  fits-back = rw (back_to, total_is (layout_of file)) home

  shown_back : Carries (target first) first (relaid first)
  shown_back = carries (target first) first again fits-back

  carries-back : Carries (layout_of file) file (relaid first)
  carries-back = record {
    layout = shown_back.layout ∙ back_to;
    spool = shown_back.spool ∙ rw (sym header_is.1, sym header_is.2, back_to);
    frame = λ k below.
        let here : k < (header_of first).count = rw (sym header_is.1) below in
        shown_back.frame k here
        ∙ ap₂ (λ (at : ℕ) (r : FrameRecord). finds (packed (with_offset at r)))
        (ap (λ (l : Layout). pixel_place l (records_of first) k) back_to ∙ place_is (layout_of file) k)
        (ap (λ (s : StridedRecord). s.frame) (new_record k here));
    rows = λ k j below. shown_back.rows k j (rw (sym header_is.1) below) ∙ shown.rows k j below;
  }

  accepts-back : relayout_says first (total_length (layout_of file) all_records) ≡ accepted (total_length (layout_of file) all_records)
  unfolding relayout_says
  accepts-back =
      rw (header_is.0, nothing_said first (header_of first).count 0 again.all (room_says (total_length (target first) (records_of first)) (total_length (layout_of file) all_records)), back_to, total_is (layout_of file), le-ltb _ _ home, eq-eqb (total_length (layout_of file) all_records) _ refl)

pub there_and_back : ThereAndBack
there_and_back file room m bytes e home =
    let c = carriable file room m bytes e in
    let n = length-is file room m bytes e in
    record { accepts = accepts-back file c n.0 home; carries = carries-back file c n.0 home }

-- So it is with what the code says and leaves.
pub carried : (file d : List ℕ) {says : Said} {d' : List ℕ} → AllBytes file → says ≡ relayout_says file (length d) → d' ≡ leaves (relayout_says file (length d)) (relaid file) d → Carried file says d'
carried file d bytes answer left total accepts =
    let e : relayout_says file (length d) ≡ accepted total = sym answer ∙ accepts in
    let is : _ ≡ relaid file = left ∙ ap (λ (s : Said). leaves s (relaid file) d) e in
    let out = there file (length d) total bytes e in
    (ap length is ∙ out.0, (subst (Carries (target file) file) (sym is) out.1, there_and_back file (length d) total bytes e))
