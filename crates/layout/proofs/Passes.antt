-- Laws of a pass over records: one record more, and none left.
-- Assumes nothing.
use Prim.Native.Nat.{ℕ, ◌+◌, ◌≤◌, ◌<◌}
use native.Mathlib.Numerals.{add-one}
use mathlib.Core.Path.{◌≡◌, refl, sym, ap, ◌∙◌}
use mathlib.Core.List.{List, [], ◌∷◌}
use lib.ListN.{length, drop, get_or, drop_of_length-le}
use lib.Seq.{drop-cons}
use Rattle.std.specs.Prelude.{Option, None, Some, Err}
use Rattle.std.specs.Result.{IsErrAnd}
use Rattle.std.proofs.lemmas.Result.{err_from_is_err_and}
use Rattle.refusal.specs.declared.Fault.{Fault}
use Rattle.refusal.specs.Answers.{Answer, Verdict, sound, faulty, Said, accepted, at_place, fault_said, decides}
use Rattle.refusal.proofs.Verdicts.{not_accepted, not_accepted_at}
use Rattle.records.specs.declared.FrameRecord.{FrameRecord}
use Rattle.records.specs.declared.Layout.{Layout}
use Rattle.records.specs.Layout.{no_frame}
use Rattle.records.specs.Pixels.{pixel_bytes}
use Rattle.records.specs.Faults.{record_fault}
use Rattle.layout.specs.LayOut.{records_say}
use Rattle.layout.specs.HowLaidOut.{State, grown, summed, checked, visited, walked, stopped}
use Rattle.layout.proofs.Checking.{stays}

-- What `?` passes on.
pub passed_on : {f : Fault} (answer : Answer) → IsErrAnd answer (λ e. e ≡ f) → answer ≡ Err f
passed_on answer h = let p = err_from_is_err_and answer h in p.1 ∙ ap (λ e. Err e) p.2

-- A check that goes on, and one that ends in a fault.
went_on : (v : Verdict) (i m n : ℕ) → accepted n ≡ decides v i (accepted m) → (v ≡ sound) × (n ≡ m)
went_on sound i m n e = (refl, cc)
went_on (faulty k) i m n e = absurd (not_accepted_at k i n (sym e))

ended : (v : Verdict) (i m n : ℕ) (place : Option ℕ) (rest : Said) → at_place n place ≡ decides v i (accepted m) → at_place n place ≡ decides v i rest
ended sound i m n None rest e = absurd (not_accepted n m e)
ended sound i m n (Some at) rest e = absurd (not_accepted_at n at m e)
ended (faulty k) i m n place rest e = e

-- A pass that has been refused stays so at one record more, as at any number of them.
pub stays_refused : (l : Layout) (f : Fault) (d : List ℕ) (place : ℕ) (frame : FrameRecord) → stopped (fault_said f) d ≡ visited l (stopped (fault_said f) d) place frame
unfolding walked
stays_refused l f d place frame = sym (stays l (frame ∷ []) place f d)

module _ (rs : List FrameRecord) (i : ℕ) where
  abbrev r : FrameRecord
  r = get_or rs i no_frame

  next_first : i < length rs → drop i rs ≡ r ∷ drop (i + 1) rs
  next_first below = drop-cons rs i no_frame below ∙ ap (λ (k : ℕ). r ∷ drop k rs) (sym (add-one i))

  -- What the records from a place on say, where the pixels of the first start at `end`.
  module _ (end : ℕ) where
    pub check_more : {next : ℕ} → i < length rs → accepted next ≡ checked end i r
        → records_say (accepted (summed next (drop (i + 1) rs))) (i + 1) (drop (i + 1) rs) ≡ records_say (accepted (summed end (drop i rs))) i (drop i rs)
    unfolding records_say
    check_more {next} below e = let w = went_on (record_fault r) i (grown end (pixel_bytes r)) next e in rw (next_first below, w.0, w.1)

    pub check_ended : (f : Fault) → i < length rs → fault_said f ≡ checked end i r → fault_said f ≡ records_say (accepted (summed end (drop i rs))) i (drop i rs)
    unfolding records_say
    check_ended f below e = rw (next_first below) (ended (record_fault r) i _ _ f.place _ e)

    pub check_none : length rs ≤ i → accepted end ≡ records_say (accepted (summed end (drop i rs))) i (drop i rs)
    unfolding records_say
    check_none past = rw (drop_of_length-le rs past)

  -- What a pass that writes leaves.
  module _ (l : Layout) (z : State) where
    pub one_more : i < length rs → walked l (drop i rs) i z ≡ walked l (drop (i + 1) rs) (i + 1) (visited l z i r)
    unfolding walked
    one_more below = ap (λ (left : List FrameRecord). walked l left i z) (next_first below)

    pub none_left : length rs ≤ i → walked l (drop i rs) i z ≡ z
    unfolding walked
    none_left past = ap (λ (left : List FrameRecord). walked l left i z) (drop_of_length-le rs past)
