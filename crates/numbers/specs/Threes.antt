-- Numbers taken three by three.
-- Assumes nothing.
use Rattle.std.specs.Prelude.{ℕ, List, [], ◌∷◌}

-- What is made of each three numbers; one or two that are left over make nothing.
abbrev pub threes : {A : Type 0} → (ℕ → ℕ → ℕ → A) → List ℕ → List A
threes make [] = []
threes make (a ∷ []) = []
threes make (a ∷ b ∷ []) = []
threes make (a ∷ b ∷ c ∷ rest) = make a b c ∷ threes make rest
