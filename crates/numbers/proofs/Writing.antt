-- Buffers that a loop writes from the front: what is written, and what is left of the source, give the whole.
-- Assumes nothing.
use Prim.Native.Nat.{ℕ, suc, ◌+◌, ◌*◌, ◌<◌, ◌≤◌}
use mathlib.Core.Path.{◌≡◌}
use mathlib.Core.List.{List, [], ◌∷◌, ◌++◌, append_assoc, append-nil}
use native.Mathlib.Omega.{arith}
use native.Mathlib.Numerals.{add-one}
use lib.ListN.{length, get_or, take, drop, set, drop_of_length-le}
use lib.Seq.{take-suc-set, take_all, drop-cons}
use Rattle.numbers.proofs.Lists.{take_two_set}

-- Of the source xs, whole xs is to be written. The first at elements stand there, made of the first k of the source.
module _ {A B : Type 0} (whole : List A → List B) where
  abbrev pub Written : List A → List B → ℕ → ℕ → Type 0
  Written xs dst at k = take at dst ++ whole (drop k xs) ≡ whole xs

  -- More of the source, up to element m, and what is made of it.
  pub written_part :
      (xs : List A) (k m at next : ℕ) (dst after made : List B) → take next after ≡ take at dst ++ made
      → whole (drop k xs) ≡ made ++ whole (drop m xs) → Written xs dst at k → Written xs after next m
  written_part xs k m at next dst after made t w e = rw (t, append_assoc (take at dst) made (whole (drop m xs)), ← w) e

  -- The same of one element.
  pub written_more :
      (xs : List A) (d : A) (k at next : ℕ) (dst after made : List B) → k < length xs
      → take next after ≡ take at dst ++ made → whole (get_or xs k d ∷ drop (suc k) xs) ≡ made ++ whole (drop (suc k) xs)
      → Written xs dst at k → Written xs after next (k + 1)
  written_more xs d k at next dst after made h t w e =
      rw (add-one k) (written_part xs k (suc k) at next dst after made t (rw (drop-cons xs k d h) w) e)

  pub written_all :
      (xs : List A) (dst : List B) (at k : ℕ) → whole [] ≡ [] → length xs ≤ k → length dst ≤ at → Written xs dst at k → dst ≡ whole xs
  written_all xs dst at k w h l e = rw (take_all at dst l, drop_of_length-le xs {i = k} h, w, append-nil dst) at e

-- What a turn writes: one element, or two.
pub take-one : {B : Type 0} (dst : List B) (k : ℕ) (v : B) → k < length dst → take (k + 1) (set dst k v) ≡ take k dst ++ (v ∷ [])
take-one dst k v h = rw (add-one k) (take-suc-set dst k v h)

pub take_two :
    (dst : List ℕ) (k low high : ℕ) → 2 * k + 1 < length dst
    → take (2 * (k + 1)) (set (set dst (2 * k) low) (2 * k + 1) high) ≡ take (2 * k) dst ++ (low ∷ high ∷ [])
take_two dst k low high h =
    let double : 2 * (k + 1) ≡ suc (suc (2 * k)) = omega arith in
    let next : 2 * k + 1 ≡ suc (2 * k) = omega arith in
    rw (double, next) (take_two_set dst (2 * k) low high (omega arith))
