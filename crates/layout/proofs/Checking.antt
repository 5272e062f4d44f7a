-- What the pass that checks finds: the first record at fault, or the bytes of all pixels.
-- Assumes nothing.
use Prim.Native.Nat.{ℕ, ◌+◌, ◌≤◌, ◌<◌}
use native.Mathlib.Nat.{add-zero, add_assoc}
use native.Mathlib.Omega.{arith}
use mathlib.Core.Path.{◌≡◌, refl, sym, ◌∙◌}
use mathlib.Core.Bool.{Bool, true, false}
use Rattle.std.specs.Prelude.{Option, None, Some}
use mathlib.Core.List.{List, [], ◌∷◌}
use lib.Dec.{ltb}
use borrow.Author.Tests.{lt-ltb, le-ltb, ltb-true}
use Rattle.refusal.specs.declared.Fault.{Fault}
use Rattle.refusal.specs.Refusals.{number_of}
use Rattle.refusal.specs.Answers.{Verdict, sound, faulty, Said, refused_at, at_place, fault_said}
use Rattle.records.specs.declared.FrameRecord.{FrameRecord}
use Rattle.records.specs.declared.Layout.{Layout}
use Rattle.records.specs.Pixels.{pixel_bytes}
use Rattle.records.specs.Faults.{record_fault}
use Rattle.layout.specs.LayOut.{length_limit, all_pixels, records_say}
use Rattle.layout.specs.HowLaidOut.{summed, walked, stopped}

-- A pass that has refused goes on as it is.
pub stays_stopped : (l : Layout) (rs : List FrameRecord) (i n : ℕ) (place : Option ℕ) (d : List ℕ) → walked l rs i (stopped (at_place n place) d) ≡ stopped (at_place n place) d
unfolding walked
stays_stopped l [] i n place d = refl
stays_stopped l (r ∷ rs) i n None d = stays_stopped l rs (i + 1) n None d
stays_stopped l (r ∷ rs) i n (Some at) d = stays_stopped l rs (i + 1) n (Some at) d

pub stays : (l : Layout) (rs : List FrameRecord) (i : ℕ) (f : Fault) (d : List ℕ) → walked l rs i (stopped (fault_said f) d) ≡ stopped (fault_said f) d
stays l rs i f d = stays_stopped l rs i (number_of f.refusal) f.place d

-- Records none of which is at fault.
pub data Fine : List FrameRecord → Type 0 where
  none : Fine []
  one : {r : FrameRecord} {rs : List FrameRecord} → record_fault r ≡ sound → Fine rs → Fine (r ∷ rs)

-- Of records from place i on, either one is at fault, or none is.
pub data Checked (rs : List FrameRecord) (i : ℕ) : Type 0 where
  at_fault : (n at : ℕ) → ((x : Said) → records_say x i rs ≡ refused_at n at) → Checked rs i
  fine : Fine rs → ((x : Said) → records_say x i rs ≡ x) → Checked rs i

check_one : (v : Verdict) (r : FrameRecord) (rs : List FrameRecord) (i : ℕ) → record_fault r ≡ v → Checked rs (i + 1) → Checked (r ∷ rs) i
unfolding records_say
check_one sound r rs i e (at_fault n at says) = at_fault n at (λ x. rw e (says x))
check_one sound r rs i e (fine good says) = fine (one e good) (λ x. rw e (says x))
check_one (faulty n) r rs i e rest = at_fault n i (λ x. rw e)

pub check : (rs : List FrameRecord) (i : ℕ) → Checked rs i
unfolding records_say
check [] i = fine none (λ x. refl)
check (r ∷ rs) i = check_one (record_fault r) r rs i refl (check rs (i + 1))

-- The sum is exact up to the limit, and past it where the pixels are.
past : (rs : List FrameRecord) (s : ℕ) → length_limit < s → summed s rs ≡ s
past [] s h = refl
past (r ∷ rs) s h = rw (lt-ltb _ _ h) (past rs s h)

pub sum_fits : (rs : List FrameRecord) (s : ℕ) → s + all_pixels rs ≤ length_limit → summed s rs ≡ s + all_pixels rs
sum_fits [] s h = sym (add-zero s)
sum_fits (r ∷ rs) s h =
    let low : s ≤ length_limit = omega arith in
    rw (le-ltb _ _ low) (sum_fits rs (s + pixel_bytes r) (omega arith) ∙ add_assoc s (pixel_bytes r) (all_pixels rs))

sum_step : (b : Bool) (r : FrameRecord) (rs : List FrameRecord) (s : ℕ) → ltb length_limit s ≡ b → length_limit < s + (pixel_bytes r + all_pixels rs)
    → (length_limit < s + pixel_bytes r + all_pixels rs → length_limit < summed (s + pixel_bytes r) rs) → length_limit < summed s (r ∷ rs)
sum_step true r rs s e h rest = rw (e, past rs s (ltb-true _ _ e)) (ltb-true _ _ e)
sum_step false r rs s e h rest = rw e (rest (omega arith))

pub sum_past : (rs : List FrameRecord) (s : ℕ) → length_limit < s + all_pixels rs → length_limit < summed s rs
sum_past [] s h = omega arith
sum_past (r ∷ rs) s h = sum_step (ltb length_limit s) r rs s refl h (sum_past rs (s + pixel_bytes r))
