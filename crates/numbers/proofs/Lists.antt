-- Lists that a loop writes from the front: one more element, and two.
-- Assumes nothing.
use Prim.Native.Nat.{ℕ, suc, ◌<◌}
use mathlib.Core.Path.{◌≡◌, ap, ◌∙◌}
use mathlib.Core.List.{List, [], ◌∷◌, ◌++◌, append_assoc}
use native.Mathlib.Omega.{arith}
use lib.ListN.{length, take, set, length-set}
use lib.Seq.{take-suc-set}

pub take_two_set :
    (d : List ℕ) (i a b : ℕ) → suc i < length d
    → take (suc (suc i)) (set (set d i a) (suc i) b) ≡ take i d ++ (a ∷ b ∷ [])
take_two_set d i a b h =
    take-suc-set (set d i a) (suc i) b (simp length-set h)
    ∙ ap (λ l. l ++ (b ∷ [])) (take-suc-set d i a (omega arith))
    ∙ append_assoc (take i d) (a ∷ []) (b ∷ [])
