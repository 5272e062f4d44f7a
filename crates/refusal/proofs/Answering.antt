-- An answer, and what it leaves in the destination.
-- Assumes nothing.
use Prim.Native.Nat.{ℕ}
use mathlib.Core.Path.{◌≡◌, refl, sym, ap, ◌∙◌}
use Rattle.refusal.specs.Answers.{Said, Answer, said, refused, leaves}

-- What an operation promises: it answers what its definition says, and leaves what that leaves.
abbrev pub Answered : {A : Type 0} → Said → Said → A → A → A → Type 0
Answered answer says after new before = (answer ≡ says) × (after ≡ leaves says new before)

pub answered : {A : Type 0} (answer says : Said) (after new before : A) → says ≡ answer → after ≡ leaves answer new before → Answered answer says after new before
answered answer says after new before e h = (sym e, h ∙ ap (λ (s : Said). leaves s new before) (sym e))

-- The same where the answer is known to be r.
pub answered_by :
    {A : Type 0} (answer r : Answer) (says : Said) (after new before : A)
    → says ≡ said answer → answer ≡ r → after ≡ leaves (said r) new before → Answered (said answer) says after new before
answered_by answer r says after new before e told h =
    answered (said answer) says after new before e (h ∙ sym (ap (λ (x : Answer). leaves (said x) new before) told))

pub refuses : {A : Type 0} (number : ℕ) (says : Said) (new before : A) → says ≡ refused number → Answered (refused number) says before new before
refuses number says new before e = answered (refused number) says before new before e refl
