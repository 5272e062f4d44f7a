-- How the code looks for the first fault among codes: quickly over all samples, and then pixel by pixel. The proofs show that what it
-- finds is `samples_say` (Faults).
-- Assumes nothing.
use Rattle.std.specs.Prelude.{ℕ, ◌≤◌, ◌≡◌, Bool, true, false, not, ◌&&◌, ◌||◌, List, [], ◌∷◌, eqb, ltb, length, drop}
use Rattle.refusal.specs.Answers.{Said}
use Rattle.samples.specs.declared.Pixel.{Pixel}
use Rattle.samples.specs.declared.Coding.TheVariants.{Codes}
use Rattle.samples.specs.Faults.{samples_say}

-- The quick look: are all samples within bounds? For luma and chroma the lower bound is 1, so that no chroma of 0 passes. A luma of 0
-- does not pass either, though it is sound: the search that follows sees that.
abbrev pub least_of : Bool → ℕ
least_of true = 1
least_of false = 0

unfoldable pub all_within : ℕ → ℕ → List ℕ → Bool
all_within least greatest [] = true
all_within least greatest (x ∷ xs) = not (ltb x least || ltb greatest x) && all_within least greatest xs

-- Is one of a pixel's three samples at fault?
abbrev pub at_fault : Bool → ℕ → Pixel → Bool
at_fault chroma greatest p =
    ltb greatest p.first || ltb greatest p.second || ltb greatest p.third || (chroma && (eqb p.second 0 || eqb p.third 0))

-- All samples before the k-th are sound, so that those from the k-th on decide.
pub record SoundTo (chroma : Bool) (greatest : ℕ) (xs : List ℕ) (k : ℕ) : Type 0 where
  pub inside : k ≤ length xs
  pub skips : (done : Said) → samples_say (Codes greatest chroma) done 0 xs ≡ samples_say (Codes greatest chroma) done k (drop k xs)
