-- What is refused, step by step, and what an accepted request is.
-- Assumes nothing.
use Prim.Native.Nat.{ℕ, zero, suc, ◌+◌, ◌-◌, ◌/◌, ◌≤◌, ◌<◌}
use mathlib.Core.Path.{◌≡◌, refl, sym, ap, ◌∙◌}
use mathlib.Core.Bool.{true, false}
use mathlib.Core.List.{List}
use mathlib.Core.Logic.{⊎_elim}
use native.Mathlib.Nat.{eq-or-lt_of_le}
use native.Mathlib.Numerals.{add-one}
use native.Mathlib.Omega.{arith}
use Rattle.std.specs.Prelude.{Option, None, Some, MatchOption}
use Rattle.std.specs.List.{AllWithin, HoldsAt}
use borrow.Author.Tests.{lt-ltb, le-ltb, eq-eqb, ne_eqb, ltb-false, eqb-true, eqb-false, not-false}
use lib.Dec.{ltb, eqb}
use lib.ListN.{length, get_or}
use Rattle.refusal.specs.declared.Fault.{Fault}
use Rattle.refusal.specs.Answers.{sound, or_else, Said, accepted, refused, refused_at, refuses_or, and_then, fault_said}
use Rattle.refusal.proofs.Verdicts.{passed, both_sound, or_accepted, not_accepted, not_accepted_at, fault_not_accepted}
use Rattle.samples.specs.declared.Coding.TheVariants.{Codes}
use Rattle.samples.specs.Samples.{pixel_size, two_by_two}
use Rattle.samples.specs.Faults.{length_fault, room_fault, samples_say}
use Rattle.samples.proofs.Reading.{length_two, length-pixels}
use Rattle.samples.proofs.Judging.{accepted-code, accepted-within, accepted-count, code-refused, code_passes}
use Rattle.samples.proofs.Order.{counted_is, says_11, says-rest}
use Rattle.esrgb.specs.Depths.{greatest}
use Rattle.stickers.specs.Choices.{tint_codes, allowed}
use Rattle.stickers.specs.Stickers.{picture_says, codes_say, tints_say, most_pixels, work_fault, work_says, request_says, picture_of}
use Rattle.stickers.specs.HowSummed.{AllCodes, TintCodes}
use Rattle.stickers.proofs.InOrder.{all_counted}

-- ---- the picture, once its pixels are counted
module _ (src : List ℕ) (room pixels : ℕ) (counted : refuses_or (length_fault true (length src)) (accepted (length src / pixel_size true)) ≡ accepted pixels) where
  pub picture_11 : (room ≡ pixels → ⊥) → picture_says src room ≡ refused 11
  picture_11 h = says_11 true (length src) room pixels (λ n. n) _ counted (ne_eqb room pixels h)

  pub picture_samples : room ≡ pixels → picture_says src room ≡ samples_say (Codes (greatest 12) false) (accepted pixels) 0 (two_by_two src)
  picture_samples h =
      says-rest true (length src) room pixels (λ n. n) _ counted (eq-eqb room pixels h)
      ∙ ap (λ done. samples_say (Codes (greatest 12) false) done 0 (two_by_two src)) (counted_is true (length src) pixels counted).1

-- ---- the tints
module _ (done : Said) (len : ℕ) (tints : List ℕ) where
  pub codes_next : (k : ℕ) → k < tint_codes → get_or tints k 0 ≤ greatest 12 → codes_say done len tints k (tint_codes - k) ≡ codes_say done len tints (k + 1) (tint_codes - (k + 1))
  unfolding codes_say
  codes_next k h l =
      let e : tint_codes - k ≡ suc (tint_codes - (k + 1)) = omega arith in
      rw e (code_passes (greatest 12) k (get_or tints k 0) (len + k) _ l)

  pub codes-above : (k : ℕ) → k < tint_codes → greatest 12 < get_or tints k 0 → codes_say done len tints k (tint_codes - k) ≡ refused_at 12 (len + k)
  unfolding codes_say
  codes-above k h l =
      let e : tint_codes - k ≡ suc (tint_codes - (k + 1)) = omega arith in
      rw e (code-refused (greatest 12) k (get_or tints k 0) (len + k) _ l)

  pub codes_end : (k : ℕ) → tint_codes ≤ k → codes_say done len tints k (tint_codes - k) ≡ done
  unfolding codes_say
  codes_end k h =
      let e : tint_codes - k ≡ 0 = omega arith in
      rw e refl

  -- Where none of the first k codes is too great, the others say what all say.
  codes_before : (k : ℕ) → k ≤ tint_codes → ((j : ℕ) → j < k → get_or tints j 0 ≤ greatest 12) → tints_say done len tints ≡ codes_say done len tints k (tint_codes - k)
  codes_before zero h small = refl
  codes_before (suc k) h small =
      rw (← add-one k)
      (codes_before k (omega arith) (λ j l. small j (omega arith)) ∙ codes_next k (omega arith) (small k (omega arith)))

-- The number of the first code that is too great, if there is one.
abbrev pub FirstAbove : List ℕ → Option ℕ → Type 0
FirstAbove tints found =
    MatchOption found (AllWithin (λ x. x ≤ greatest 12) tints 0 (length tints))
    (λ k. (k < length tints) × HoldsAt (λ x. greatest 12 < x) tints k × AllWithin (λ x. x ≤ greatest 12) tints 0 k)

pub first_says :
    (tints : List ℕ) (found : Option ℕ) → length tints ≡ tint_codes → FirstAbove tints found
    → MatchOption found ((done : Said) (len : ℕ) → tints_say done len tints ≡ done)
    (λ k. (k < tint_codes) × ((done : Said) (len : ℕ) → tints_say done len tints ≡ refused_at 12 (len + k)))
first_says tints None whole small =
    λ done len. codes_before done len tints tint_codes (omega arith) (λ j h. small j 0 (omega arith) (omega arith)) ∙ codes_end done len tints tint_codes (omega arith)
first_says tints (Some k) whole first = (
  omega (arith, first.0),
  λ done len. codes_before done len tints k (omega (arith, first.0)) (λ j h. first.2 j 0 (omega arith) h) ∙ codes-above done len tints k (omega (arith, first.0)) (first.1 0),
)

-- ---- the tints, the budget and the number of pixels
module _ (len : ℕ) (tints : List ℕ) (budget pixels : ℕ) where
  pub work_12 : (k : ℕ) → ((done : Said) (len : ℕ) → tints_say done len tints ≡ refused_at 12 (len + k)) → refused_at 12 (len + k) ≡ work_says len tints budget pixels
  work_12 k is = sym (is _ len)

  module _ (codes : (done : Said) (len : ℕ) → tints_say done len tints ≡ done) where
    pub work_rest : work_says len tints budget pixels ≡ refuses_or (work_fault budget pixels) (accepted (allowed budget))
    work_rest = codes _ len

    pub work_18 : budget ≡ 0 → refused 18 ≡ work_says len tints budget pixels
    work_18 h = sym (work_rest ∙ rw (eq-eqb budget 0 h) refl)

    module _ (some : budget ≡ 0 → ⊥) where
      pub work-19 : most_pixels < pixels → refused 19 ≡ work_says len tints budget pixels
      work-19 h = sym (work_rest ∙ rw (ne_eqb budget 0 some, lt-ltb most_pixels pixels h) refl)

      pub work-done : pixels ≤ most_pixels → (limit : ℕ) → limit ≡ allowed budget → accepted limit ≡ work_says len tints budget pixels
      work-done h limit e = sym (work_rest ∙ rw (ne_eqb budget 0 some, le-ltb most_pixels pixels h) (ap accepted (sym e)))

-- ---- one after the other
then_stands : (first next : Said) → ((n : ℕ) → first ≡ accepted n → ⊥) → and_then first next ≡ first
then_stands (accepted n) next never = absurd (never n refl)
then_stands (refused k) next never = refl
then_stands (refused_at k at) next never = refl

then_accepted : (first next : Said) (n : ℕ) → and_then first next ≡ accepted n → next ≡ accepted n
then_accepted (accepted m) next n e = e
then_accepted (refused k) next n e = absurd (not_accepted k n e)
then_accepted (refused_at k at) next n e = absurd (not_accepted_at k at n e)

first-accepted : (P : Type 0) (first next : Said) (n : ℕ) → and_then first next ≡ accepted n → ((m : ℕ) → first ≡ accepted m → P) → P
first-accepted P (accepted m) next n e given = given m refl
first-accepted P (refused k) next n e given = absurd (not_accepted k n e)
first-accepted P (refused_at k at) next n e given = absurd (not_accepted_at k at n e)

-- ---- what an accepted picture is
pub length_picture : (src : List ℕ) → length (picture_of src) ≡ length src / pixel_size true
length_picture src = omega (arith, length-pixels (two_by_two src), length_two src)

pub record SoundPicture (src : List ℕ) (room : ℕ) : Type 0 where
  pub codes : AllCodes (two_by_two src)
  pub room-is : room ≡ length (picture_of src)

module _ (src : List ℕ) (room n : ℕ) (h : picture_says src room ≡ accepted n) where
  said_parts : (or_else (length_fault true (length src)) (room_fault (length src / pixel_size true) room) ≡ sound) × (samples_say (Codes (greatest 12) false) (accepted (length src / pixel_size true)) 0 (two_by_two src) ≡ accepted n)
  said_parts = or_accepted (or_else (length_fault true (length src)) (room_fault (length src / pixel_size true) room)) _ n h

  pub picture_count : length src / pixel_size true ≡ n
  picture_count = accepted-count (greatest 12) (length src / pixel_size true) n 0 (two_by_two src) said_parts.1

  pub picture_sound : SoundPicture src room
  picture_sound =
      let lengths = both_sound (length_fault true (length src)) (room_fault (length src / pixel_size true) room) said_parts.0 in
      let fits = passed _ 11 sound lengths.1 in
      let exact = eqb-true room (length src / pixel_size true) (not-false _ fits.0) in
      record { codes = accepted-within (greatest 12) (length src / pixel_size true) n 0 (two_by_two src) said_parts.1; room-is = omega (arith, exact, length_picture src) }

-- ---- the picture decides, or leaves it to the rest
module _ (src tints : List ℕ) (budget room : ℕ) where
  pub rest-decides : (pixels : ℕ) → picture_says src room ≡ accepted pixels → work_says (length src) tints budget pixels ≡ request_says src tints budget room
  unfolding request_says
  rest-decides pixels e =
      ap (work_says (length src) tints budget) (sym (picture_count src room pixels e))
      ∙ sym (ap (λ s. and_then s (work_says (length src) tints budget (length src / pixel_size true))) e)

  pub picture_decides : (s : Said) → ((n : ℕ) → s ≡ accepted n → ⊥) → s ≡ picture_says src room → s ≡ request_says src tints budget room
  unfolding request_says
  picture_decides s never e = sym (then_stands s _ never) ∙ ap (λ first. and_then first (work_says (length src) tints budget (length src / pixel_size true))) e

  pub picture_ends : (f : Fault) → fault_said f ≡ picture_says src room → fault_said f ≡ request_says src tints budget room
  picture_ends f e = picture_decides (fault_said f) (fault_not_accepted f) e

-- ---- what accepted tints, budget and number of pixels are
module _ (done : Said) (len : ℕ) (tints : List ℕ) (n : ℕ) where
  next_code : (k left : ℕ) → codes_say done len tints k (suc left) ≡ accepted n → (get_or tints k 0 ≤ greatest 12) × (codes_say done len tints (k + 1) left ≡ accepted n)
  unfolding codes_say
  next_code k left e = accepted-code (greatest 12) k (get_or tints k 0) (len + k) n _ e

  codes-done : (k left : ℕ) → codes_say done len tints k left ≡ accepted n → done ≡ accepted n
  unfolding codes_say
  codes-done k zero e = e
  codes-done k (suc left) e = codes-done (k + 1) left (next_code k left e).1

  codes-within : (k left j : ℕ) → codes_say done len tints k left ≡ accepted n → k ≤ j → j < k + left → get_or tints j 0 ≤ greatest 12
  codes-within k zero j e h l = absurd (omega arith)
  codes-within k (suc left) j e h l =
      ⊎_elim
      (λ is. rw (← is) (next_code k left e).0)
      (λ more. codes-within (k + 1) left j (next_code k left e).1 (omega arith) (omega arith))
      (eq-or-lt_of_le h)

pub record SoundWork (tints : List ℕ) (budget pixels n : ℕ) : Type 0 where
  pub codes : TintCodes tints
  pub few : pixels ≤ most_pixels
  pub some : 0 < n
  pub limit : n ≡ allowed budget

pub work_sound : (len : ℕ) (tints : List ℕ) (budget pixels n : ℕ) → work_says len tints budget pixels ≡ accepted n → SoundWork tints budget pixels n
work_sound len tints budget pixels n h =
    let work = or_accepted (work_fault budget pixels) (accepted (allowed budget)) n (codes-done _ len tints n 0 tint_codes h) in
    let told = work.1 in
    let limit : n ≡ allowed budget = cc in
    let paid = passed (eqb budget 0) 18 _ work.0 in
    let fits = passed (ltb most_pixels pixels) 19 sound paid.1 in
    let some = eqb-false budget 0 paid.0 in
    record {
      codes = λ k l. codes-within _ len tints n 0 tint_codes k h (omega arith) l;
      few = ltb-false most_pixels pixels fits.0;
      some = omega (arith, all_counted);
      limit = limit;
    }

-- ---- what an accepted request is
pub record SoundRequest (src tints : List ℕ) (budget room n : ℕ) : Type 0 where
  pub picture : SoundPicture src room
  pub work : SoundWork tints budget (length src / pixel_size true) n

pub request_sound : (src tints : List ℕ) (budget room n : ℕ) → request_says src tints budget room ≡ accepted n → SoundRequest src tints budget room n
unfolding request_says
request_sound src tints budget room n h =
    record {
      picture = first-accepted (SoundPicture src room) (picture_says src room) _ n h (λ m e. picture_sound src room m e);
      work = work_sound (length src) tints budget (length src / pixel_size true) n (then_accepted (picture_says src room) _ n h);
    }
