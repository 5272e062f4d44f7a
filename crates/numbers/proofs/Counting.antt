-- Counts of lists: of one more element, of two lists behind one another, of a list in which no element passes; and no count is above the
-- length.
-- Assumes nothing.
use Prim.Native.Nat.{ℕ, zero, suc, ◌+◌, ◌≤◌, ◌<◌}
use mathlib.Core.Path.{◌≡◌, refl}
use mathlib.Core.Bool.{Bool, true, false, cond}
use mathlib.Core.List.{List, [], ◌∷◌, ◌++◌}
use native.Mathlib.Omega.{arith}
use native.Mathlib.Numerals.{add-one}
use lib.ListN.{length, get_or, drop}
use lib.Seq.{drop-cons}
use Rattle.numbers.specs.Counting.{how_many}

module _ {A : Type 0} (test : A → Bool) where
  pub count_at : (xs : List A) (k : ℕ) (d : A) → k < length xs → how_many test (drop k xs) ≡ cond (test (get_or xs k d)) 1 0 + how_many test (drop (k + 1) xs)
  unfolding how_many
  count_at xs k d h = rw (drop-cons xs k d h, add-one k)

  pub count-append : (xs ys : List A) → how_many test (xs ++ ys) ≡ how_many test xs + how_many test ys
  unfolding how_many
  count-append [] ys = omega arith
  count-append (x ∷ xs) ys = omega (arith, count-append xs ys)

  one-most : (b : Bool) → cond b 1 0 ≤ 1
  one-most true = omega arith
  one-most false = omega arith

  pub count_most : (xs : List A) → how_many test xs ≤ length xs
  unfolding how_many
  count_most [] = omega arith
  count_most (x ∷ xs) = omega (arith, one-most (test x), count_most xs)

  pub count_none : (xs : List A) (d : A) → ((j : ℕ) → j < length xs → test (get_or xs j d) ≡ false) → how_many test xs ≡ 0
  unfolding how_many
  count_none [] d h = refl
  count_none (x ∷ xs) d h = rw (h zero (omega arith)) (omega (arith, count_none xs d (λ j i. h (suc j) (omega arith))))
