-- Bytes written over a list at a place, and more bytes written behind them.
-- Assumes nothing.
use Prim.Native.Nat.{ℕ, ◌+◌, ◌-◌, ◌≤◌}
use native.Mathlib.Omega.{arith}
use mathlib.Core.Path.{◌≡◌, refl, sym, ap, ap₂, ◌∙◌}
use borrow.Rule.Slice.PartMut.{put_mid}
use mathlib.Core.List.{List, [], ◌++◌, append_assoc}
use lib.ListN.{length, take, drop, length-append, take-append-drop}
use lib.Seq.{drop-drop}
use Rattle.relayout.specs.HowCarried.{over}
use Rattle.layout.proofs.Writing.{over-length, over-take, over-drop}

pub over_none : (d : List ℕ) (at : ℕ) → over d at [] ≡ d
over_none d at = ap (λ (n : ℕ). take at d ++ drop n d) (let e : at + 0 ≡ at = omega arith in e) ∙ take-append-drop at d

module _ (d a : List ℕ) (at : ℕ) (room : at + length a ≤ length d) where
  pub same_length : length (over d at a) ≡ length d
  same_length = over-length d a at (at + length a) refl room

  pub over-more : (b : List ℕ) → over (over d at a) (at + length a) b ≡ over d at (a ++ b)
  over-more b =
      let e : at + length a + length b ≡ at + length (a ++ b) = simp length-append (omega arith) in
      ap₂ (λ (x y : List ℕ). x ++ (b ++ y)) (over-take d a at (at + length a) refl room)
      (over-drop d a at (at + length a) refl room (at + length a + length b) (omega arith) ∙ ap (λ (n : ℕ). drop n d) e)
      ∙ append_assoc (take at d) a (b ++ drop (at + length (a ++ b)) d)
      ∙ ap (λ (x : List ℕ). take at d ++ x) (sym (append_assoc a b (drop (at + length (a ++ b)) d)))

-- A part written to exactly its place.
pub put_over : (d b : List ℕ) {part : List ℕ} (at : ℕ) → part ≡ b → put_mid at (at + length b - at) d part ≡ over d at b
put_over d b at e =
    ap₂ (λ (x y : List ℕ). take at d ++ (x ++ y)) e (drop-drop (at + length b - at) at d ∙ ap (λ (n : ℕ). drop n d) (omega arith))
