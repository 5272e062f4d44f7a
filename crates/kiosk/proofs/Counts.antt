-- The counts that operations give fit a signed number of 64 bits: a slice has fewer bytes than that.
-- Assumes nothing.
use Prim.Native.Nat.{ℕ, zero, suc, ◌+◌, ◌/◌, ◌^◌, ◌<◌}
use mathlib.Core.Path.{◌≡◌, refl, sym, subst}
use mathlib.Core.Bool.{Bool, true, false, cond}
use mathlib.Core.List.{List, [], ◌∷◌}
use native.Mathlib.Nat.{lt_of_le_of_lt}
use native.Mathlib.Omega.{arith}
use lib.Dec.{eqb, ltb, lit<}
use borrow.Author.Tests.{ltb-false}
use lib.IntN.{ℤ}
use lib.ListN.{length}
use Rattle.refusal.specs.Answers.{Verdict, sound, faulty, Said, accepted, refused, decides}
use Rattle.refusal.proofs.Verdicts.{or_holds}
use Rattle.samples.specs.declared.Coding.{Coding}
use Rattle.samples.specs.Samples.{place, pixel_size, samples_of}
use Rattle.samples.specs.Faults.{wide_coding, fault, samples_say, call_fault, source_says}
use Rattle.picture.specs.declared.Conversion.{Conversion}
use Rattle.picture.specs.Forms.{coding_of, wide_form}
use Rattle.picture.specs.Convert.{source, target, offers, convert_says}
use Rattle.transfer.specs.Level.{offers_codes}
use Rattle.linear.specs.Operations.{codes_to_light_says, light_to_codes_says}
use Rattle.linear.specs.Moved.{through_fault, Through}
use Rattle.records.specs.declared.FrameRecord.{FrameRecord}
use Rattle.records.specs.declared.StridedRecord.{StridedRecord}
use Rattle.records.specs.declared.Layout.TheVariants.{Plain}
use Rattle.records.specs.Layout.{header_of}
use Rattle.records.specs.Pixels.{span_bytes}
use Rattle.records.specs.Faults.{frame_limit, record_fault}
use Rattle.records.proofs.Sizes.{row_small, span_small}
use Rattle.spool.specs.Open.{open_fault}
use Rattle.spool.specs.Find.{record_at, frame_fault}
use Rattle.spool.specs.Rows.{row_extent}
use Rattle.layout.specs.LayOut.{length_limit, total_length, room_says, layout_says, records_say}
use Rattle.relayout.specs.Relayout.{target as carriedTo, records_of, frames_say, relayout_says}
use Rattle.printer.specs.declared.Arrival.{Arrival}
use Rattle.printer.specs.Arrivals.{arrival_fault, arrivals_say, arrivals, rest_fault, end_says, simulation_says}
use Rattle.kiosk.specs.Interface.{Countable}

-- A refusal is countable, whatever it is.
decided : (v : Verdict) (at : ℕ) (rest : Said) → Countable rest → Countable (decides v at rest)
decided sound at rest h = h
decided (faulty n) at rest h = tt

or_refused : (b : Bool) (k : ℕ) (s : Said) → Countable s → Countable (cond b (refused k) s)
or_refused true k s h = tt
or_refused false k s h = h

module _ (coding : Coding) (done : Said) (h : Countable done) where
  samples_say_lem : (k : ℕ) (xs : List ℕ) → Countable (samples_say coding done k xs)
  unfolding samples_say
  samples_say_lem k [] = h
  samples_say_lem k (x ∷ xs) = decided (fault coding k x) (place (wide_coding coding) k) _ (samples_say_lem (k + 1) xs)

pixels : (wide : Bool) (len : ℕ) → len < 2 ^ 63 → len / pixel_size wide < 2 ^ 63
pixels true len h = omega arith
pixels false len h = omega arith

source-counts : (offered : Bool) (coding : Coding) (to : Bool) (src : List ℕ) (room : ℕ) → length src < 2 ^ 63
    → Countable (source_says offered coding to src room)
unfolding source_says
source-counts offered coding to src room h =
    let wide = wide_coding coding in
    or_holds Countable (call_fault offered wide to (length src) room) _ (λ number. tt)
    (samples_say_lem coding (accepted (length src / pixel_size wide)) (pixels wide (length src) h) 0 (samples_of wide src))

pub convert-counts : (c : Conversion) (src : List ℕ) (room : ℕ) {s : Said} → s ≡ convert_says c src room → length src < 2 ^ 63 → Countable s
convert-counts c src room e h = subst Countable (sym e) (source-counts (offers c) (coding_of (source c)) (wide_form (target c)) src room h)

pub light_counts : (n : ℕ) (src : List ℕ) (room : ℕ) → length src < 2 ^ 63 → Countable (codes_to_light_says n src room)
light_counts n src room h = source-counts _ _ false src room h

pub code-counts : (n numbers room : ℕ) → numbers < 2 ^ 63 → Countable (light_to_codes_says n numbers room)
code-counts n numbers room h =
    or_holds Countable (call_fault (offers_codes n) false true numbers room) (accepted (numbers / 3)) (λ number. tt) (pixels false numbers h)

pub through_counts :
    {n : ℕ} {codes back back' : List ℕ} {moves light light' : List ℤ} {s : Said} → Through n codes moves light light' back back' s
    → length codes < 2 ^ 63 → Countable s
through_counts {n} {codes} {back} {moves = moves} {light = light} kept h =
    subst Countable (sym kept.says)
    (or_holds Countable (through_fault n (length codes) (length moves) (length light) (length back)) (codes_to_light_says n codes (length light)) (λ number. tt)
    (light_counts n codes (length light) h))

-- The bytes of a frame's pixels, and of a row.
pub frame-counts : (s : StridedRecord) → s.frame.width < 2 ^ 16 → s.frame.height < 2 ^ 16 → s.stride < 2 ^ 32 → span_bytes s < 2 ^ 63
frame-counts s w h t = lt_of_le_of_lt (span_small s w h t) (lit< tt)

pub row_counts : (s : StridedRecord) (j : ℕ) → s.frame.width < 2 ^ 16 → (row_extent s j).length < 2 ^ 63
row_counts s j w = by_test (ltb j s.frame.height) refl where
  by_test : (b : Bool) → ltb j s.frame.height ≡ b → (row_extent s j).length < 2 ^ 63
  by_test true e = rw e (lt_of_le_of_lt (row_small s.frame w) (lit< tt))
  by_test false e = rw e (lit< tt)

-- ---- laying out, and carrying to the other layout
module _ (done : Said) (h : Countable done) where
  records_say_lem : (at : ℕ) (rs : List FrameRecord) → Countable (records_say done at rs)
  unfolding records_say
  records_say_lem at [] = h
  records_say_lem at (r ∷ rs) = decided (record_fault r) at (records_say done (at + 1) rs) (records_say_lem (at + 1) rs)

totals : (total room : ℕ) → Countable (room_says total room)
totals total room = by_tests (ltb length_limit total) (eqb room total) refl where
  by_tests : (a b : Bool) → ltb length_limit total ≡ a → Countable (cond a (refused 14) (cond b (accepted total) (refused 11)))
  by_tests true b e = tt
  by_tests false true e = omega (arith, ltb-false length_limit total e)
  by_tests false false e = tt

pub layout-counts : (rs : List FrameRecord) (room : ℕ) → Countable (layout_says rs room)
unfolding layout_says
layout-counts rs room =
    let says = room_says (total_length Plain rs) room in
    or_refused (ltb frame_limit (length rs)) 3 (records_say says 0 rs) (records_say_lem says (totals (total_length Plain rs) room) 0 rs)

frames_say_lem : (file : List ℕ) (done : Said) (h : Countable done) (left k : ℕ) → Countable (frames_say file done left k)
unfolding frames_say
frames_say_lem file done h zero k = h
frames_say_lem file done h (suc left) k = decided (frame_fault false file (record_at file k)) k (frames_say file done left (k + 1)) (frames_say_lem file done h left (k + 1))

pub relayout_counts : (file : List ℕ) (room : ℕ) → Countable (relayout_says file room)
unfolding relayout_says
relayout_counts file room =
    let says = room_says (total_length (carriedTo file) (records_of file)) room in
    or_holds Countable (open_fault file) (frames_say file says (header_of file).count 0) (λ number. tt) (frames_say_lem file says (totals (total_length (carriedTo file) (records_of file)) room) (header_of file).count 0)

-- The turns of a printer.
module _ (done : Said) (h : Countable done) where
  arrivals_say_lem : (i before : ℕ) (list : List Arrival) → Countable (arrivals_say done i before list)
  unfolding arrivals_say
  arrivals_say_lem i before [] = h
  arrivals_say_lem i before (a ∷ list) = decided (arrival_fault i before a) i _ (arrivals_say_lem (i + 1) a.turn list)

pub printer-counts : (numbers : List ℕ) (turns : ℕ) → turns < 2 ^ 63 → Countable (simulation_says numbers turns)
unfolding simulation_says
printer-counts numbers turns h = arrivals_say_lem (end_says numbers turns) (decided (rest_fault (length numbers)) _ (accepted turns) h) 0 0 (arrivals numbers)
