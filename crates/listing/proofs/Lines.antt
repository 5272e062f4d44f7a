-- Laws of the listing: the first of the lines, the first of the fields, and the whole by the answer of Open.
-- Assumes nothing.
use Prim.Native.Nat.{ℕ, suc, ◌+◌, ◌-◌, ◌≤◌, ◌<◌}
use native.Mathlib.Omega.{arith}
use mathlib.Core.Path.{◌≡◌, sym, ap, ◌∙◌}
use mathlib.Core.List.{List, [], ◌∷◌, ◌++◌, append_assoc}
use lib.ListN.{length, drop, get_or, drop_of_length-le}
use lib.Seq.{drop-cons}
use borrow.Author.Tests.{le-ltb}
use Rattle.spool.specs.Open.{OpenSaid, open_says}
use Rattle.spool.specs.Find.{find_says}
use Rattle.listing.specs.Text.{decimal}
use Rattle.listing.specs.Listing.{fields, line, lines, spool_text, listing, input_limit}
use Rattle.listing.proofs.Texts.{byte_first}

-- The lines from frame k on begin with its own.
pub line_first : (file : List ℕ) (count k : ℕ) → k < count → lines file (count - k) k ≡ line k (find_says file k) ++ lines file (count - (k + 1)) (k + 1)
unfolding lines
line_first file count k below =
    let left : count - k ≡ suc (count - (k + 1)) = omega arith in
    rw left

pub no_lines : (file : List ℕ) (count k : ℕ) → count ≤ k → lines file (count - k) k ≡ []
unfolding lines
no_lines file count k past =
    let none : count - k ≡ 0 = omega arith in
    rw none

-- The listing of a file that is not too long, by the answer of Open.
pub by_answer : (file : List ℕ) (s : OpenSaid) → length file ≤ input_limit → s ≡ open_says file → listing file ≡ spool_text file s
by_answer file s h e = rw (le-ltb _ _ h, ← e)

-- The fields from field i on begin with its own and what stands behind it: a space, or a line feed after the last.
module _ (ns : List ℕ) (i : ℕ) (below : i < length ns) (e : ℕ) where
  field_first : (l : List ℕ) → drop (i + 1) ns ≡ l → fields (get_or ns i 0 ∷ l) ≡ decimal (get_or ns i 0) ++ (e ∷ fields l)
      → fields (drop i ns) ≡ (decimal (get_or ns i 0) ++ (e ∷ [])) ++ fields (drop (i + 1) ns)
  field_first l are one =
      ap fields (byte_first ns i below ∙ ap (λ (m : List ℕ). get_or ns i 0 ∷ m) are)
      ∙ one
      ∙ sym (append_assoc (decimal (get_or ns i 0)) (e ∷ []) (fields l))
      ∙ ap (λ (m : List ℕ). (decimal (get_or ns i 0) ++ (e ∷ [])) ++ fields m) (sym are)

  pub field_more : i + 1 < length ns → e ≡ 32 → fields (drop i ns) ≡ (decimal (get_or ns i 0) ++ (e ∷ [])) ++ fields (drop (i + 1) ns)
  field_more more is = field_first _ (drop-cons ns (i + 1) 0 more) (ap (λ (x : ℕ). decimal (get_or ns i 0) ++ (x ∷ fields (get_or ns (i + 1) 0 ∷ drop (suc (i + 1)) ns))) (sym is))

  pub field_last : length ns ≤ i + 1 → e ≡ 10 → fields (drop i ns) ≡ (decimal (get_or ns i 0) ++ (e ∷ [])) ++ fields (drop (i + 1) ns)
  field_last last is = field_first [] (drop_of_length-le ns last) (ap (λ (x : ℕ). decimal (get_or ns i 0) ++ (x ∷ [])) (sym is))
