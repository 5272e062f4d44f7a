-- The answer, the bytes and the promise, by what is said of the request.
-- Assumes nothing.
use Prim.Native.Nat.{ℕ, ◌<◌, ◌≤◌}
use mathlib.Core.Path.{◌≡◌, refl, sym, ap, subst, ◌∙◌}
use mathlib.Core.List.{List, [], map}
use native.Mathlib.Omega.{arith}
use Rattle.std.specs.Prelude.{Option, None, Some, Result, Ok, Err}
use Rattle.refusal.specs.declared.Refusal.{Refusal}
use Rattle.refusal.specs.declared.Fault.{Fault}
use Rattle.refusal.specs.Refusals.{number_of}
use Rattle.refusal.specs.Answers.{Said, accepted, refused, refused_at, at_place, fault_said, somewhere, leaves}
use Rattle.stickers.specs.declared.Choice.{Choice}
use Rattle.stickers.specs.Choices.{tint_of, allowed, choice_of}
use Rattle.stickers.specs.Stickers as stickers
use Rattle.stickers.specs.Stickers.{chooses, refuses_by, request_says, chosen_said, chooses_if, picture_of, stickers_says, stickers}
use Rattle.stickers.specs.Promise.{Promised}
use Rattle.stickers.proofs.InOrder.{all_counted}
use Rattle.stickers.proofs.Best.{choice_promised}
use Rattle.stickers.proofs.Requests.{request_sound}

never : (P : Type 0) → ◌≡◌ {A = ℕ} 0 1 → P
never P e = absurd (omega arith)

module _ (src tints : List ℕ) (budget room : ℕ) where
  abbrev pub Meets : Result Choice Fault → List ℕ → List ℕ → Type 0
  Meets r before after =
      (chosen_said r ≡ stickers_says src tints budget room)
      × ((after ≡ leaves (request_says src tints budget room) (stickers src tints budget) before)
      × ((choice : Choice) → r ≡ Ok choice → Promised tints (picture_of src) budget choice))

  pub accepts :
      (n : ℕ) (choice : Choice) (before after : List ℕ) → request_says src tints budget room ≡ accepted n → 0 < budget
      → choice ≡ choice_of tints (picture_of src) budget → after ≡ map (tint_of tints choice.four) (picture_of src) → Meets (Ok choice) before after
  unfolding stickers_says stickers choice_of
  accepts n choice before after says some is bytes = (
    rw (says, is) refl,
    (
      bytes ∙ ap (λ x. map (tint_of tints x.four) (picture_of src)) is ∙ sym (ap (λ s. leaves s (stickers src tints budget) before) says),
      λ other e.
          let same : choice ≡ other = cc in
          subst (Promised tints (picture_of src) budget) (sym is ∙ same) (choice_promised tints (picture_of src) budget some),
    ),
  )

  refuses_where : (number : ℕ) (place : Option ℕ) → request_says src tints budget room ≡ at_place number place → refuses_by number place ≡ stickers_says src tints budget room
  unfolding stickers_says
  refuses_where number None says = rw says refl
  refuses_where number (Some at) says = rw says refl

  stays : (number : ℕ) (place : Option ℕ) (before : List ℕ) → request_says src tints budget room ≡ at_place number place
      → before ≡ leaves (request_says src tints budget room) (stickers src tints budget) before
  stays number None before says = rw says refl
  stays number (Some at) before says = rw says refl

  pub refuses : (fault : Fault) (before : List ℕ) → request_says src tints budget room ≡ fault_said fault → Meets (Err fault) before before
  refuses fault before says = (
    refuses_where (number_of fault.refusal) fault.place says,
    (stays (number_of fault.refusal) fault.place before says, λ choice e. never (Promised tints (picture_of src) budget choice) cc),
  )

  pub refused_choice : (fault : Fault) → fault_said fault ≡ request_says src tints budget room → chosen_said (Err fault) ≡ stickers_says src tints budget room
  refused_choice fault says = (refuses fault [] (sym says)).0

  pub refuses-at :
      (r : Refusal) (at : ℕ) (before : List ℕ) → request_says src tints budget room ≡ refused_at (number_of r) at → Meets (Err (somewhere r at)) before before
  refuses-at r at before says = refuses (somewhere r at) before says

-- ---- what an answer tells of the request
chooses_tells : (P : Type 0) (s : Said) (c choice : Choice) → chooses choice ≡ chooses_if s c → ((n : ℕ) → s ≡ accepted n → choice ≡ c → P) → P
chooses_tells P (accepted n) c choice e given = given n refl cc
chooses_tells P (refused k) c choice e given = never P cc
chooses_tells P (refused_at k at) c choice e given = never P cc

refuses_tells : (s : Said) (c : Choice) (number : ℕ) → stickers.refuses number ≡ chooses_if s c → s ≡ refused number
refuses_tells (accepted n) c number e = never _ cc
refuses_tells (refused k) c number e = cc
refuses_tells (refused_at k at) c number e = never _ cc

refuses_at_tells : (s : Said) (c : Choice) (number place : ℕ) → stickers.refuses_at number place ≡ chooses_if s c → s ≡ refused_at number place
refuses_at_tells (accepted n) c number place e = never _ cc
refuses_at_tells (refused k) c number place e = never _ cc
refuses_at_tells (refused_at k at) c number place e = cc

module _ (src tints : List ℕ) (budget room : ℕ) where
  pub accepted-says :
      (choice : Choice) → chooses choice ≡ stickers_says src tints budget room
      → (request_says src tints budget room ≡ accepted choice.looked) × (choice ≡ choice_of tints (picture_of src) budget)
  unfolding stickers_says choice_of
  accepted-says choice e =
      chooses_tells _ (request_says src tints budget room) (choice_of tints (picture_of src) budget) choice e
      (λ n says is. (says ∙ ap accepted ((request_sound src tints budget room n says).work.limit ∙ sym (ap (λ x. x.looked) is)), is))

  pub refused_says : (number : ℕ) → stickers.refuses number ≡ stickers_says src tints budget room → request_says src tints budget room ≡ refused number
  unfolding stickers_says
  refused_says number e = refuses_tells (request_says src tints budget room) _ number e

  pub refused_at_says :
      (number place : ℕ) → stickers.refuses_at number place ≡ stickers_says src tints budget room → request_says src tints budget room ≡ refused_at number place
  unfolding stickers_says
  refused_at_says number place e = refuses_at_tells (request_says src tints budget room) _ number place e

  pub fault_says : (fault : Fault) → chosen_said (Err fault) ≡ stickers_says src tints budget room → request_says src tints budget room ≡ fault_said fault
  fault_says fault e = by (number_of fault.refusal) fault.place e
    where
      by : (number : ℕ) (place : Option ℕ) → refuses_by number place ≡ stickers_says src tints budget room → request_says src tints budget room ≡ at_place number place
      by number None e = refused_says number e
      by number (Some at) e = refused_at_says number at e

  -- No more choices are looked at than there are.
  pub looked_few : (choice : Choice) → chooses choice ≡ stickers_says src tints budget room → choice.looked ≤ 1820
  unfolding choice_of
  looked_few choice e =
      let is : choice.looked ≡ allowed budget = ap (λ x. x.looked) (accepted-says choice e).1 in
      omega (arith, all_counted)
