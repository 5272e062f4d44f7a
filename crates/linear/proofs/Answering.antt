-- The depths that light has codes at; and what depth and lengths lead to, for codes through moved light.
-- Assumes nothing.
use Prim.Native.Nat.{ℕ}
use mathlib.Core.Path.{◌≡◌, refl}
use mathlib.Core.Bool.{true, false, not}
use borrow.Author.Tests.{ne_eqb, eqb-true, not-false}
use lib.Dec.{eqb}
use Rattle.refusal.specs.Answers.{sound, or_else, accepted}
use Rattle.refusal.proofs.Verdicts.{passed, both_sound}
use Rattle.samples.specs.Faults.{room_fault, call_fault, in_order, Exact}
use Rattle.samples.proofs.Order.{accepted_exact}
use Rattle.transfer.specs.Level.{offers_codes}
use Rattle.linear.specs.Moved.{through_fault}

pub not_offered : (n : ℕ) → (n ≡ 10 → ⊥) → (n ≡ 12 → ⊥) → offers_codes n ≡ false
not_offered n ten twelve = rw (ne_eqb n 10 ten, ne_eqb n 12 twelve)

-- ---- through moved light: the depth, the lengths of codes and light, and then the other two
-- Where none of these is at fault.
pub record Lengths (n codes moves light back : ℕ) : Type 0 where
  pub offers : offers_codes n ≡ true
  pub exact : Exact true false codes light
  pub moves_fit : moves ≡ light
  pub back_fits : back ≡ codes

pub lengths_fit : (n codes moves light back : ℕ) → through_fault n codes moves light back ≡ sound → Lengths n codes moves light back
lengths_fit n codes moves light back h =
    let all = both_sound (call_fault (offers_codes n) true false codes light) (or_else (room_fault light moves) (room_fault codes back)) h in
    let rooms = both_sound (room_fault light moves) (room_fault codes back) all.1 in
    let call : in_order (offers_codes n) true false codes light (accepted 0) ≡ accepted 0 = rw all.0 refl in
    let exact = accepted_exact (offers_codes n) true false codes light (accepted 0) 0 call in
    let move-each = passed (not (eqb moves light)) 11 sound rooms.0 in
    let as_long = passed (not (eqb back codes)) 11 sound rooms.1 in
    record {
      offers = exact.0;
      exact = exact.1;
      moves_fit = eqb-true moves light (not-false _ move-each.0);
      back_fits = eqb-true back codes (not-false _ as_long.0);
    }
