-- Numbers taken three by three: how many threes there are, and which one stands where.
-- Assumes nothing.
use Prim.Native.Nat.{ℕ, zero, suc, ◌+◌, ◌*◌, ◌/◌, ◌<◌}
use mathlib.Core.Path.{◌≡◌, refl}
use mathlib.Core.List.{List, [], ◌∷◌}
use native.Mathlib.Omega.{arith}
use lib.ListN.{length, get_or}
use Rattle.numbers.specs.Threes.{threes}

module _ {A : Type 0} (make : ℕ → ℕ → ℕ → A) where
  pub length-threes : (xs : List ℕ) → length (threes make xs) ≡ length xs / 3
  length-threes [] = refl
  length-threes (a ∷ []) = refl
  length-threes (a ∷ b ∷ []) = refl
  length-threes (a ∷ b ∷ c ∷ rest) = omega (arith, length-threes rest)

  pub three_at :
      (xs : List ℕ) (j : ℕ) (d : A) → 3 * j + 2 < length xs
      → get_or (threes make xs) j d ≡ make (get_or xs (3 * j) 0) (get_or xs (3 * j + 1) 0) (get_or xs (3 * j + 2) 0)
  three_at [] j d h = absurd (omega arith)
  three_at (a ∷ []) j d h = absurd (omega arith)
  three_at (a ∷ b ∷ []) j d h = absurd (omega arith)
  three_at (a ∷ b ∷ c ∷ rest) zero d h = refl
  three_at (a ∷ b ∷ c ∷ rest) (suc j) d h =
      let e : 3 * suc j ≡ suc (suc (suc (3 * j))) = omega arith in
      let f : 3 * suc j + 1 ≡ suc (suc (suc (3 * j + 1))) = omega arith in
      let g : 3 * suc j + 2 ≡ suc (suc (suc (3 * j + 2))) = omega arith in
      rw (g, f, e) (three_at rest j d (omega arith))
