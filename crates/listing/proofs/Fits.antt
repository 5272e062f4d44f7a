-- Every listing is short: as many lines as a spool has frames, under the heading.
-- Assumes nothing.
use Prim.Native.Nat.{ℕ, zero, suc, ◌+◌, ◌*◌, ◌/◌, ◌^◌, ◌≤◌, ◌<◌}
use native.Mathlib.Nat.{pow-suc, div-lt_iff_lt-mul}
use native.Mathlib.Omega.{arith}
use mathlib.Core.Path.{◌≡◌, refl}
use mathlib.Core.Bool.{Bool, true, false, cond}
use mathlib.Core.List.{List, [], ◌∷◌, ◌++◌}
use lib.Dec.{ltb}
use lib.ListN.{length, take, length-append}
use borrow.Author.Tests.{ltb-true, ltb-false}
use Rattle.numbers.specs.Bytes.{AllBytes}
use Rattle.records.specs.Layout.{header_of}
use Rattle.records.proofs.Small.{Small}
use Rattle.records.specs.Faults.{frame_limit}
use Rattle.refusal.proofs.Verdicts.{TwoDigits}
use Rattle.spool.specs.Open.{open_fault, open_by, open_says}
use Rattle.spool.specs.Find.{FindSaid, finds, refuses_frame, find_fault, find_by, find_says, record_at}
use Rattle.spool.proofs.OpenFaults.{open_file}
use Rattle.spool.proofs.Small.{open_fault_short, find_fault_short, record_at_small}
use Rattle.listing.specs.Text.{decimal, Buffer, put_text}
use Rattle.listing.specs.Listing.{refused_word, fields, line, lines, spool_text, listing, line_room, listing_room, input_limit}
use Rattle.listing.proofs.Texts.{one_digit, more-digits, ends}
use Rattle.refusal.specs.Answers.{Verdict, sound, faulty}

-- A number below a power of ten has no more digits than that power.
decimal_short : (d n : ℕ) → n < 10 ^ suc d → length (decimal n) ≤ suc d
decimal_short zero n h = rw (one_digit n (omega arith)) (omega arith)
decimal_short (suc d) n h = by_test (ltb n 10) refl (decimal_short d (n / 10)) where
  by_test : (t : Bool) → ltb n 10 ≡ t → (n / 10 < 10 ^ suc d → length (decimal (n / 10)) ≤ suc d) → length (decimal n) ≤ suc (suc d)
  by_test true e rest = rw (one_digit n (ltb-true n 10 e)) (omega arith)
  by_test false e rest =
      let below : n / 10 < 10 ^ suc d = (div-lt_iff_lt-mul {k = 10} (omega arith)).1 (rw pow-suc at h) in
      rw (more-digits n (ltb-false n 10 e), length-append) (omega (arith, rest below))

-- The answers of Find that a file of bytes gives.
abbrev Short : FindSaid → Type 0
Short (finds s) = Small s.frame
Short (refuses_frame n s) = TwoDigits (faulty n)

-- No line is longer.
line_short : (k : ℕ) (s : FindSaid) → k < frame_limit → Short s → length (line k s) ≤ line_room
line_short k (finds s) below small =
    let r = s.frame in
    let number = decimal_short 2 k (omega arith) in
    let order = decimal_short 9 r.order (omega (arith, small 6)) in
    let kind = decimal_short 2 r.kind (omega (arith, small 3)) in
    let bits = decimal_short 2 r.bits (omega (arith, small 4)) in
    let width = decimal_short 4 r.width (omega (arith, small 1)) in
    let height = decimal_short 4 r.height (omega (arith, small 2)) in
    let copies = decimal_short 4 r.copies (omega (arith, small 5)) in
    let offset = decimal_short 9 r.offset (omega (arith, small 0)) in
    simp length-append (omega (arith, number, order, kind, bits, width, height, copies, offset))
line_short k (refuses_frame n s) below small =
    let number = decimal_short 2 k (omega arith) in
    let why = decimal_short 1 n (omega (arith, small)) in
    simp length-append (omega (arith, number, why))

found_short : (file : List ℕ) → AllBytes file → (k : ℕ) → Short (find_says file k)
found_short file all k = by_fault (find_fault true file k) (find_fault_short true file k) where
  by_fault : (v : Verdict) → TwoDigits v → Short (find_by v (record_at file k))
  by_fault sound h = record_at_small file all k
  by_fault (faulty n) h = h

lines_short : (file : List ℕ) → AllBytes file → (left k : ℕ) → k + left ≤ frame_limit → length (lines file left k) ≤ line_room * left
unfolding lines
lines_short file all zero k h = omega arith
lines_short file all (suc left) k h =
    let first = line_short k (find_says file k) (omega arith) (found_short file all k) in
    let others = lines_short file all left (k + 1) (omega arith) in
    simp length-append (omega (arith, first, others))

pub listing_short : (file : List ℕ) → AllBytes file → length (listing file) ≤ listing_room
listing_short file all = by_length (ltb input_limit (length file)) where
  by_fault : (v : Verdict) → open_fault file ≡ v → TwoDigits v → length (spool_text file (open_by v (header_of file))) ≤ listing_room
  by_fault sound e h =
      let few = (open_file file e).few in
      simp length-append (omega (arith, few, lines_short file all (header_of file).count 0 (omega arith)))
  by_fault (faulty n) e h = simp length-append (omega (arith, decimal_short 1 n (omega (arith, h))))

  by_length : (t : Bool) → length (cond t (refused_word ++ fields (15 ∷ [])) (spool_text file (open_says file))) ≤ listing_room
  by_length true = simp length-append (omega (arith, decimal_short 1 15 (omega arith)))
  by_length false = by_fault (open_fault file) refl (open_fault_short file)

-- A listing in a buffer ends within it, and all of it is there where there is room for every listing.
pub in_buffer : (file d : List ℕ) → AllBytes file → (z : Buffer) → z ≡ put_text (record { bytes = d; at = 0 }) (listing file)
    → (z.at ≤ length z.bytes) × (listing_room ≤ length d → take z.at z.bytes ≡ listing file)
in_buffer file d all z e =
    let end = ends d (listing file) z e in
    (end.0, λ room. end.1 (omega (arith, listing_short file all)))
