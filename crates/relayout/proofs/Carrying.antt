-- From the check of the frames to the answer and the bytes: what `ready` leaves, and what is written after it.
-- Assumes nothing.
use Prim.Native.Nat.{ℕ, zero, suc, ◌+◌, ◌-◌, ◌≤◌, ◌<◌}
use native.Mathlib.Omega.{arith}
use native.Mathlib.Nat.{zero-add, le_of_eq}
use mathlib.Core.Path.{◌≡◌, refl, sym, ap, ap₂, ◌∙◌, subst}
use mathlib.Core.Bool.{Bool, true, false}
use mathlib.Core.List.{List, ◌++◌, append_assoc, append-nil}
use lib.Dec.{eqb, ltb}
use lib.ListN.{length, drop, length-append, length-drop, drop_of_length-le}
use lib.Seq.{take_at}
use borrow.Author.Tests.{le-ltb, ltb-false, eqb-true}
use Rattle.refusal.specs.declared.Refusal.{Refusal}
use Rattle.std.specs.Prelude.{Option, None, Some, Result, Err}
use Rattle.refusal.specs.declared.Fault.{Fault}
use Rattle.refusal.specs.Answers.{at_place, fault_said, sound, Said, accepted, refused, refused_at, leaves}
use Rattle.refusal.specs.Refusals.{number_of}
use Rattle.records.specs.declared.FrameRecord.{FrameRecord}
use Rattle.records.specs.declared.Header.{Header}
use Rattle.records.specs.declared.Layout.{Layout}
use Rattle.records.specs.Layout.{header_of, header_size, header_bytes}
use Rattle.records.specs.Faults.{frame_limit}
use Rattle.spool.specs.declared.Contents.{Contents}
use Rattle.spool.specs.Open.{open_fault, open_said, open_says}
use Rattle.spool.specs.Find.{record_at, frame_fault}
use Rattle.spool.proofs.OpenFaults.{open_file, refused-fault}
use Rattle.spool.proofs.FindFaults.{sound_record}
use Rattle.layout.specs.LayOut.{length_limit, pixels_from, all_pixels, total_length, room_says, placed, table_bytes, header_for, spool_bytes}
use Rattle.layout.specs.HowLaidOut.{State, starts, stopped, walked, readied}
use Rattle.layout.proofs.Checking.{Fine, none, one}
use Rattle.layout.proofs.Laid.{written_out}
use Rattle.layout.proofs.RoundTrip.{front_length}
use Rattle.relayout.specs.Relayout.{target, records_from, records_of, frames_say, relayout_says, pixels_of, relaid}
use Rattle.relayout.specs.HowCarried.{over}
use Rattle.relayout.proofs.Frames.{records_length, AllSound, now_sound, later-sound, nothing_said, Checked, at_fault, fine, check, pixels-length}

-- The records of sound frames have no fault.
pub records_fine : (file : List ℕ) (left k : ℕ) → AllSound file left k → Fine (records_from file left k)
unfolding records_from
records_fine file zero k all = none
records_fine file (suc left) k all =
    one
    (sound_record false file (record_at file k) (now_sound file left k all)).fine
    (records_fine file left (k + 1) (later-sound file left k all))

-- A file that does not open.
pub shut : (file : List ℕ) (room : ℕ) {o : Result Contents Refusal} {r : Refusal} → o ≡ Err r → open_said o ≡ open_says file → refused (number_of r) ≡ relayout_says file room
unfolding relayout_says
shut file room {r = r} e said = rw (refused-fault (number_of r) (open_fault file) (header_of file) (ap open_said (sym e) ∙ said))

-- An answer that is no acceptance.
abbrev pub Refuses : Said → Type 0
Refuses (accepted n) = ⊥
Refuses (refused n) = Unit
Refuses (refused_at n at) = Unit

refuses_at_place : (n : ℕ) (place : Option ℕ) → Refuses (at_place n place)
refuses_at_place n None = tt
refuses_at_place n (Some at) = tt

pub fault_refuses : (f : Fault) → Refuses (fault_said f)
fault_refuses f = refuses_at_place (number_of f.refusal) f.place

refuses-leaves : (s : Said) (new old : List ℕ) → Refuses s → old ≡ leaves s new old
refuses-leaves (accepted n) new old h = absurd h
refuses-leaves (refused n) new old h = refl
refuses-leaves (refused_at n at) new old h = refl

-- So many frames an open spool has.
how_many_lem : (file : List ℕ) → length (records_of file) ≡ (header_of file).count
how_many_lem file = records_length file (header_of file).count 0

pub few : (file : List ℕ) → open_fault file ≡ sound → length (records_of file) ≤ frame_limit
few file opens = let most = (open_file file opens).few in let many = how_many_lem file in rw many most

module _ (file d : List ℕ) (opens : open_fault file ≡ sound) where
  abbrev l : Layout
  l = target file

  abbrev rs : List FrameRecord
  rs = records_of file

  abbrev count : ℕ
  count = (header_of file).count

  abbrev shop : ℕ
  shop = (header_of file).shop

  abbrev total : ℕ
  total = total_length l rs

  abbrev header : Header
  header = header_for l (length rs) shop total

  few_here : length rs ≤ frame_limit
  few_here = few file opens

  -- The state before the table is written.
  abbrev begins : State
  begins = starts (pixels_from l (length rs)) (header_bytes l header ++ drop (header_size l) d)

  -- What `ready` leaves: a refusal, or that state.
  pub data Begun (z : State) : Type 0 where
    ends : (s : Said) → Refuses s → relayout_says file (length d) ≡ s → z.says ≡ s → z.bytes ≡ d → Begun z
    writes : AllSound file count 0 → total ≤ length_limit → length d ≡ total → relayout_says file (length d) ≡ accepted total → z ≡ begins → Begun z

  abbrev after : Said → State
  after says = readied l (length rs) shop says d

  by_room : (a b : Bool) → ltb length_limit total ≡ a → eqb (length d) total ≡ b → AllSound file count 0 → Begun (after (accepted (all_pixels rs)))
  unfolding readied relayout_says
  by_room true b e f all = ends (refused 14) tt (rw (opens, nothing_said file count 0 all (room_says total (length d)), e)) (rw (le-ltb _ _ few_here, e)) (rw (le-ltb _ _ few_here, e))
  by_room false true e f all =
      writes all (ltb-false _ _ e) (eqb-true _ _ f) (rw (opens, nothing_said file count 0 all (room_says total (length d)), e, f)) (rw (le-ltb _ _ few_here, e, f))
  by_room false false e f all = ends (refused 11) tt (rw (opens, nothing_said file count 0 all (room_says total (length d)), e, f)) (rw (le-ltb _ _ few_here, e, f)) (rw (le-ltb _ _ few_here, e, f))

  by_check : Checked file count 0 → Begun (after (frames_say file (accepted (all_pixels rs)) count 0))
  unfolding readied relayout_says
  by_check (at_fault n at says) =
      ends (refused_at n at) tt (rw (opens, says (room_says total (length d)))) (rw (le-ltb _ _ few_here, says (accepted (all_pixels rs)))) (rw (le-ltb _ _ few_here, says (accepted (all_pixels rs))))
  by_check (fine all) = rw (nothing_said file count 0 all (accepted (all_pixels rs))) (by_room (ltb length_limit total) (eqb (length d) total) refl refl all)

  pub begun : {n number : ℕ} {m : Layout} {says : Said} {z : State} → n ≡ count → number ≡ shop → m ≡ l → says ≡ frames_say file (accepted (all_pixels rs)) n 0
      → z ≡ readied m n number says d → Begun z
  begun e f g h is =
      subst Begun (sym (is ∙ rw (f, g, h, e) (ap (λ (k : ℕ). readied l k shop (frames_say file (accepted (all_pixels rs)) count 0) d) (sym (how_many_lem file))))) (by_check (check file count 0))

  -- Refused, the answer is the operation's, and the destination is as it was.
  pub refused_ends : {z : State} → Begun z → Refuses z.says → (z.says ≡ relayout_says file (length d)) × (z.bytes ≡ leaves (relayout_says file (length d)) (relaid file) d)
  refused_ends (ends s turned says e b) refuses = (e ∙ sym says, b ∙ refuses-leaves s (relaid file) d turned ∙ ap (λ (x : Said). leaves x (relaid file) d) (sym says))
  refused_ends (writes all small room says is) refuses = absurd (subst Refuses (ap (λ (y : State). y.says) is) refuses)

  pub refused_by_check : (f : Fault) {n number : ℕ} {m : Layout} {says : Said} {d' : List ℕ} → n ≡ count → number ≡ shop → m ≡ l → says ≡ frames_say file (accepted (all_pixels rs)) n 0
      → stopped (fault_said f) d' ≡ readied m n number says d
      → (fault_said f ≡ relayout_says file (length d)) × (d' ≡ leaves (relayout_says file (length d)) (relaid file) d)
  refused_by_check f counted owned to checked is = refused_ends (begun counted owned to checked is) (fault_refuses f)

  -- Accepted so far, all frames are sound, and there is room for their pixels.
  pub record Goes (z : State) (first : ℕ) : Type 0 where
    pub all : AllSound file count 0
    pub small : total ≤ length_limit
    pub room : length d ≡ total
    pub says : relayout_says file (length d) ≡ accepted total
    pub is : z ≡ begins
    pub starts : first ≡ pixels_from l (length rs)

  goes_by : {z : State} {first : ℕ} → Begun z → accepted first ≡ z.says → Goes z first
  goes_by (ends s turned says e b) a = absurd (subst Refuses (sym e ∙ sym a) turned)
  goes_by (writes all small room says is) a =
      record { all = all; small = small; room = room; says = says; is = is; starts = let same = a ∙ ap (λ (y : State). y.says) is in cc }

  pub goes : {n number : ℕ} {m : Layout} {says : Said} {first : ℕ} {d' : List ℕ} → n ≡ count → number ≡ shop → m ≡ l → says ≡ frames_say file (accepted (all_pixels rs)) n 0
      → starts first d' ≡ readied m n number says d → Goes (starts first d') first
  goes counted owned to checked is = goes_by (begun counted owned to checked is) refl

  module _ {z : State} {first : ℕ} (g : Goes z first) where
    bytes-length : length (pixels_of file) ≡ all_pixels rs
    bytes-length = pixels-length file count 0 opens (le_of_eq (zero-add count)) g.all

    pub room_for : (d' : List ℕ) → length d' ≡ length d → first + length (pixels_of file) ≤ length d'
    room_for d' long = let e = bytes-length in let f = g.starts in let h = g.room in rw (e, f, long, h) (omega arith)

    pub each-sound : (k : ℕ) → k < count → frame_fault false file (record_at file k) ≡ sound
    each-sound k below = ap (λ (i : ℕ). frame_fault false file (record_at file i)) (sym (zero-add k)) ∙ g.all k below

    abbrev front : List ℕ
    front = header_bytes l header ++ table_bytes l (placed (pixels_from l (length rs)) rs)

    abbrev tail : List ℕ
    tail = drop (pixels_from l (length rs)) d

    front_is : length front ≡ first
    front_is = front_length l rs header ∙ sym g.starts

    spool-is : (pixels : List ℕ) → spool_bytes l rs shop pixels ≡ front ++ pixels
    unfolding spool_bytes
    spool-is pixels = sym (append_assoc (header_bytes l header) (table_bytes l (placed (pixels_from l (length rs)) rs)) pixels)

    all_length : length (front ++ tail) ≤ first + length (pixels_of file)
    all_length =
        let e = bytes-length in
        let f = g.starts in
        let h = g.room in
        let w = front_is in
        let t : length tail ≡ length d - pixels_from l (length rs) = length-drop (pixels_from l (length rs)) d in
        rw (length-append front tail) (omega (arith, e, f, h, w, t))

    copied_in : over (spool_bytes l rs shop tail) first (pixels_of file) ≡ relaid file
    copied_in =
        ap (λ (w : List ℕ). over w first (pixels_of file)) (spool-is tail)
        ∙ ap₂ (λ (x y : List ℕ). x ++ (pixels_of file ++ y)) (take_at front tail first front_is) (drop_of_length-le (front ++ tail) all_length)
        ∙ ap (λ (x : List ℕ). front ++ x) (append-nil (pixels_of file))
        ∙ sym (spool-is (pixels_of file))

    -- What the table leaves, with the pixels copied over it.
    module _ {m : Layout} {s : Said} {w : List ℕ} (to : m ≡ l) (table : stopped s w ≡ walked m rs 0 z) where
      out : stopped s w ≡ stopped (accepted total) (spool_bytes l rs shop tail)
      out =
          let ends = written_out l rs shop d few_here (records_fine file count 0 g.all) g.small g.room in
          table ∙ ap (λ (x : Layout). walked x rs 0 z) to ∙ ap (walked l rs 0) g.is ∙ ap₂ stopped ends.0 ends.1

      pub accepts : s ≡ accepted total
      accepts = ap (λ (y : State). y.says) out

      pub done : {d' : List ℕ} → d' ≡ over w first (pixels_of file) → (s ≡ relayout_says file (length d)) × (d' ≡ leaves (relayout_says file (length d)) (relaid file) d)
      done copied = (
        accepts ∙ sym g.says,
        copied ∙ ap (λ (y : State). over y.bytes first (pixels_of file)) out ∙ copied_in ∙ ap (λ (x : Said). leaves x (relaid file) d) (sym g.says),
      )
