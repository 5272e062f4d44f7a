-- The frames of an open spool one after another: their records, what is said of them, and their pixels.
-- Assumes nothing.
use Prim.Native.Nat.{ℕ, zero, suc, ◌+◌, ◌-◌, ◌≤◌, ◌<◌}
use native.Mathlib.Omega.{arith}
use native.Mathlib.Nat.{add-zero, add_assoc}
use mathlib.Core.Path.{◌≡◌, refl, sym, ap, ap₂, ◌∙◌}
use mathlib.Core.Bool.{true, false}
use mathlib.Core.List.{List, [], ◌∷◌, ◌++◌}
use lib.ListN.{length, take, drop, length-append, length-take, length-drop}
use borrow.Author.Tests.{le-ltb}
use Rattle.refusal.specs.Answers.{fault_said, Verdict, sound, faulty, Said, accepted, refused_at}
use Rattle.records.specs.declared.FrameRecord.{FrameRecord}
use Rattle.records.specs.declared.StridedRecord.{StridedRecord}
use Rattle.records.specs.declared.Layout.{Layout}
use Rattle.records.specs.Layout.{header_of}
use Rattle.records.specs.Pixels.{pixel_bytes}
use Rattle.records.proofs.Strides.{gaps_taken, sound_stride, free_span}
use Rattle.std.specs.Prelude.{Some, Ok, Err}
use Rattle.refusal.specs.declared.Fault.{Fault}
use Rattle.refusal.specs.declared.Refusal.{Refusal}
use Rattle.refusal.specs.Refusals.{number_of}
use Rattle.spool.specs.Open.{open_fault}
use Rattle.spool.specs.Find.{Found, FindSaid, finds, record_at, pixels_outside, frame_fault, find_said, says_of, find_says, pixels_start, pixels_length, frame_pixels}
use Rattle.spool.proofs.FindFaults.{by_record, found, finds-sound, refuses-faulty, Sound, sound_record}
use Rattle.layout.specs.LayOut.{all_pixels}
use Rattle.layout.specs.HowLaidOut.{State, visited, walked}
use Rattle.relayout.specs.Relayout.{records_from, frames_say, frame_pixels_from}

-- What is found of a frame that the spool has: its record, which is sound, or the record's fault.
module _ (file : List ℕ) (k : ℕ) (opens : open_fault file ≡ sound) (below : k < (header_of file).count) {f : Found} (said : find_said f ≡ says_of false file k) where
  pub frame_sound : {s : StridedRecord} → f ≡ Ok s → (frame_fault false file (record_at file k) ≡ sound) × (s ≡ record_at file k)
  frame_sound e = finds-sound (frame_fault false file (record_at file k)) (ap find_said (sym e) ∙ said ∙ sym (by_record false file k opens below refl))

  pub frame_faulty : {r : Refusal} → f ≡ Err r → frame_fault false file (record_at file k) ≡ faulty (number_of r)
  frame_faulty e = refuses-faulty (frame_fault false file (record_at file k)) (record_at file k) (ap find_said (sym e) ∙ said ∙ sym (by_record false file k opens below refl))

-- A fault with a place says it.
pub said_there : (f : Fault) (k : ℕ) → f.place ≡ Some k → fault_said f ≡ refused_at (number_of f.refusal) k
said_there f k e = rw e

-- The frames from frame k on, of so many: one more, and none left.
module _ (file : List ℕ) (count k : ℕ) where
  left : k < count → count - k ≡ suc (count - (k + 1))
  left below = omega arith

  none_left : count ≤ k → count - k ≡ 0
  none_left past = omega arith

  pub records_more : k < count → records_from file (count - k) k ≡ (record_at file k).frame ∷ records_from file (count - (k + 1)) (k + 1)
  unfolding records_from
  records_more below = rw (left below)

  pub pixels_more : k < count → frame_pixels_from file (count - k) k ≡ frame_pixels file k ++ frame_pixels_from file (count - (k + 1)) (k + 1)
  unfolding frame_pixels_from
  pixels_more below = rw (left below)

  pub pixels_none : count ≤ k → frame_pixels_from file (count - k) k ≡ []
  unfolding frame_pixels_from
  pixels_none past = rw (none_left past)

  says-more : (done : Said) → k < count → frame_fault false file (record_at file k) ≡ sound → frames_say file done (count - k) k ≡ frames_say file done (count - (k + 1)) (k + 1)
  unfolding frames_say
  says-more done below good = rw (left below, good)

  -- The sum of the pixels so far, with a frame that is sound, at one that is not, and at the end.
  pub sum_more : (total : ℕ) {n : ℕ} → k < count → frame_fault false file (record_at file k) ≡ sound → n ≡ pixel_bytes (record_at file k).frame
      → frames_say file (accepted (total + n + all_pixels (records_from file (count - (k + 1)) (k + 1)))) (count - (k + 1)) (k + 1)
      ≡ frames_say file (accepted (total + all_pixels (records_from file (count - k) k))) (count - k) k
  sum_more total {n} below good e =
      let rest = records_from file (count - (k + 1)) (k + 1) in
      sym (says-more (accepted (total + n + all_pixels rest)) below good)
      ∙ ap (λ (m : ℕ). frames_say file (accepted m) (count - k) k) (add_assoc total n (all_pixels rest) ∙ ap (λ (m : ℕ). total + (m + all_pixels rest)) e ∙ ap (λ (rs : List FrameRecord). total + all_pixels rs) (sym (records_more below)))

  pub sum_faulty : (done : Said) {n : ℕ} → k < count → frame_fault false file (record_at file k) ≡ faulty n → refused_at n k ≡ frames_say file done (count - k) k
  unfolding frames_say
  sum_faulty done below bad = rw (left below, bad)

  pub sum_none : (total : ℕ) → count ≤ k → accepted total ≡ frames_say file (accepted (total + all_pixels (records_from file (count - k) k))) (count - k) k
  unfolding frames_say records_from
  sum_none total past = rw (none_left past, add-zero total)

  -- The pass that writes the table.
  module _ (l : Layout) (z : State) where
    pub walk_more : k < count → walked l (records_from file (count - k) k) k z ≡ walked l (records_from file (count - (k + 1)) (k + 1)) (k + 1) (visited l z k (record_at file k).frame)
    unfolding walked
    walk_more below = rw (records_more below)

    pub walk_none : count ≤ k → walked l (records_from file (count - k) k) k z ≡ z
    unfolding walked records_from
    walk_none past = rw (none_left past)

-- How many records there are.
pub records_length : (file : List ℕ) (left k : ℕ) → length (records_from file left k) ≡ left
unfolding records_from
records_length file zero k = refl
records_length file (suc left) k = ap suc (records_length file left (k + 1))

-- A frame that is sound where gaps are not taken is found, and its pixels have no gaps.
module _ (file : List ℕ) (k : ℕ) (opens : open_fault file ≡ sound) (below : k < (header_of file).count) (good : frame_fault false file (record_at file k) ≡ sound) where
  abbrev s : StridedRecord
  s = record_at file k

  abbrev is : Sound false file s
  is = sound_record false file s good

  within : pixels_outside file s ≡ false
  unfolding pixels_outside
  within = rw (le-ltb _ _ is.behind, le-ltb _ _ is.inside)

  pub found_too : find_says file k ≡ finds s
  found_too =
      sym (found true file s (sym is.fine) (gaps_taken s (sound_stride false s is.strides) refl) within ∙ by_record true file k opens below refl)

  pub pixels_are : frame_pixels file k ≡ take (pixel_bytes s.frame) (drop s.frame.offset file)
  pixels_are =
      ap (λ (f : FindSaid). take (pixels_length f) (drop (pixels_start f) file)) found_too
      ∙ ap (λ (n : ℕ). take n (drop s.frame.offset file)) (free_span s is.fine is.strides)

  pub pixels-inside : s.frame.offset + pixel_bytes s.frame ≤ length file
  pixels-inside = let span = free_span s is.fine is.strides in let end = is.inside in rw (sym span) end

  pub frame-length : length (frame_pixels file k) ≡ pixel_bytes s.frame
  frame-length = let end = pixels-inside in ap length pixels_are ∙ simp (length-take, length-drop) (omega (arith, end))

-- The frames from frame k on, of so many: one is at fault, or all are sound.
abbrev pub AllSound : List ℕ → ℕ → ℕ → Type 0
AllSound file left k = (j : ℕ) → j < left → frame_fault false file (record_at file (k + j)) ≡ sound

pub data Checked (file : List ℕ) (left k : ℕ) : Type 0 where
  at_fault : (n at : ℕ) → ((x : Said) → frames_say file x left k ≡ refused_at n at) → Checked file left k
  fine : AllSound file left k → Checked file left k

-- The first of them, and those after it.
pub now_sound : (file : List ℕ) (left k : ℕ) → AllSound file (suc left) k → frame_fault false file (record_at file k) ≡ sound
now_sound file left k all = sym (ap (λ (i : ℕ). frame_fault false file (record_at file i)) (add-zero k)) ∙ all 0 (omega arith)

pub later-sound : (file : List ℕ) (left k : ℕ) → AllSound file (suc left) k → AllSound file left (k + 1)
later-sound file left k all j below =
    let next : k + 1 + j ≡ k + suc j = omega arith in
    ap (λ (i : ℕ). frame_fault false file (record_at file i)) next ∙ all (suc j) (omega arith)

all_more : (file : List ℕ) (left k : ℕ) → frame_fault false file (record_at file k) ≡ sound → AllSound file left (k + 1) → AllSound file (suc left) k
all_more file left k good all zero below = ap (λ (i : ℕ). frame_fault false file (record_at file i)) (add-zero k) ∙ good
all_more file left k good all (suc j) below =
    let next : k + suc j ≡ k + 1 + j = omega arith in
    ap (λ (i : ℕ). frame_fault false file (record_at file i)) next ∙ all j (omega arith)

check_one : (v : Verdict) (file : List ℕ) (left k : ℕ) → frame_fault false file (record_at file k) ≡ v → Checked file left (k + 1) → Checked file (suc left) k
unfolding frames_say
check_one sound file left k e (at_fault n at says) = at_fault n at (λ x. rw e (says x))
check_one sound file left k e (fine all) = fine (all_more file left k e all)
check_one (faulty n) file left k e rest = at_fault n k (λ x. rw e)

pub check : (file : List ℕ) (left k : ℕ) → Checked file left k
check file zero k = fine (λ j below. absurd (omega arith))
check file (suc left) k = check_one (frame_fault false file (record_at file k)) file left k refl (check file left (k + 1))

-- Of sound frames nothing is said.
pub nothing_said : (file : List ℕ) (left k : ℕ) → AllSound file left k → (x : Said) → frames_say file x left k ≡ x
unfolding frames_say
nothing_said file zero k all x = refl
nothing_said file (suc left) k all x =
    rw (now_sound file left k all) (nothing_said file left (k + 1) (later-sound file left k all) x)

-- The pixels of sound frames.
pub pixels-length : (file : List ℕ) (left k : ℕ) → open_fault file ≡ sound → k + left ≤ (header_of file).count → AllSound file left k → length (frame_pixels_from file left k) ≡ all_pixels (records_from file left k)
unfolding frame_pixels_from records_from
pixels-length file zero k opens few all = refl
pixels-length file (suc left) k opens few all =
    let one : length (frame_pixels file k) ≡ pixel_bytes (record_at file k).frame = frame-length file k opens (omega arith) (now_sound file left k all) in
    let rest = pixels-length file left (k + 1) opens (omega arith) (later-sound file left k all) in
    length-append (frame_pixels file k) (frame_pixels_from file left (k + 1)) ∙ ap₂ (λ (a b : ℕ). a + b) one rest
