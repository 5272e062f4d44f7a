-- A rule of every entry of a table, by one test that is computed over the whole table.
-- Assumes nothing.
use Prim.Native.Nat.{ℕ, zero, suc, ◌+◌, ◌<◌}
use mathlib.Core.Path.{◌≡◌}
use mathlib.Core.Bool.{Bool, true, and-eq-true_iff, ◌&&◌}
use mathlib.Core.List.{List, [], ◌∷◌}
use native.Mathlib.Omega.{arith}
use lib.ListN.{length, get_or}

-- The entries pass the test, each with its place, counted from i.
abbrev pub every : (ℕ → ℕ → Bool) → ℕ → List ℕ → Bool
every f i [] = true
every f i (x ∷ xs) = f i x && every f (suc i) xs

passes_from : (f : ℕ → ℕ → Bool) (xs : List ℕ) (i : ℕ) → every f i xs ≡ true → (k : ℕ) → k < length xs → f (i + k) (get_or xs k 0) ≡ true
passes_from f [] i t k h = absurd (omega arith)
passes_from f (x ∷ xs) i t zero h =
    let e : i + zero ≡ i = omega arith in
    rw e ((and-eq-true_iff (f i x) (every f (suc i) xs)).0 t).0
passes_from f (x ∷ xs) i t (suc k) h =
    let e : i + suc k ≡ suc i + k = omega arith in
    rw e (passes_from f xs (suc i) ((and-eq-true_iff (f i x) (every f (suc i) xs)).0 t).1 k (omega arith))

pub passes_at : (f : ℕ → ℕ → Bool) (xs : List ℕ) → every f 0 xs ≡ true → (k : ℕ) → k < length xs → f k (get_or xs k 0) ≡ true
passes_at f xs t k h =
    let e : 0 + k ≡ k = omega arith in
    rw e at (passes_from f xs 0 t k h)
