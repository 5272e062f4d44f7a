-- The arrivals of a turn, one after another: what waits then, and that each arrival comes once.
-- Assumes nothing.
use Prim.Native.Nat.{ℕ, zero, suc, ◌+◌, ◌*◌, ◌≤◌, ◌<◌}
use mathlib.Core.Path.{◌≡◌, refl, sym, ap, subst, ◌∙◌}
use mathlib.Core.List.{List, [], ◌∷◌}
use native.Mathlib.Nat.{le_refl}
use native.Mathlib.Omega.{arith}
use lib.ListN.{length, get_or, set, drop}
use lib.Seq.{drop-length, get_or-set_same, get_or-set_other}
use borrow.Author.Tests.{eq-eqb, ne_eqb}
use Rattle.printer.specs.declared.Arrival.{Arrival}
use Rattle.printer.specs.Arrivals.{print_limit, arrival_limit}
use Rattle.printer.specs.Turns.{joined, came}
use Rattle.printer.specs.HowRun.{Due, AllDue, Ready}
use Rattle.printer.proofs.Judging.{Stands}

-- ---- numbers of which one is set
pub set_here : (w : List ℕ) (i k v : ℕ) → k < length w → i ≡ k → get_or (set w i v) k 0 ≡ v
set_here w i k v h e = rw e (get_or-set_same w k v 0 h)

pub set_elsewhere : (w : List ℕ) (i k v : ℕ) → (i ≡ k → ⊥) → get_or (set w i v) k 0 ≡ get_or w k 0
set_elsewhere w i k v n = get_or-set_other w i k v 0 (λ z. n (sym z))

pub set_most : (w : List ℕ) (i v most : ℕ) → ((k : ℕ) → get_or w k 0 ≤ most) → v ≤ most → (k : ℕ) → get_or (set w i v) k 0 ≤ most
set_most [] i v most h l k = h k
set_most (x ∷ w) zero v most h l zero = l
set_most (x ∷ w) zero v most h l (suc k) = h (suc k)
set_most (x ∷ w) (suc i) v most h l zero = h zero
set_most (x ∷ w) (suc i) v most h l (suc k) = set_most w i v most (λ j. h (suc j)) l k

-- ---- one arrival
came_now : (t : ℕ) (a : Arrival) (list : List Arrival) (w : List ℕ) → a.turn ≡ t → came t (a ∷ list) w ≡ came t list (joined a w)
unfolding came
came_now t a list w e = simp (eq-eqb a.turn t e)

came_not : (t : ℕ) (a : Arrival) (list : List Arrival) (w : List ℕ) → (a.turn ≡ t → ⊥) → came t (a ∷ list) w ≡ came t list w
unfolding came
came_not t a list w e = simp (ne_eqb a.turn t e)

-- Arrivals of later turns do not come.
later-none : (t u : ℕ) (list : List Arrival) (w : List ℕ) → t < u → AllDue u list → came t list w ≡ w
unfolding came
later-none t u [] w h due = refl
later-none t u (a ∷ list) w h due =
    came_not t a list w (λ z. omega (arith, due.0.later)) ∙ later-none t a.turn list w (omega (arith, due.0.later)) due.1

-- ---- those of a turn
-- In turn t, which began with `old` waiting, w waits, since the arrivals before number `next` have come.
pub record Coming (list : List Arrival) (t : ℕ) (old w : List ℕ) (next : ℕ) : Type 0 where
  pub listed : length list ≤ arrival_limit
  pub within : next ≤ length list
  pub due : AllDue t (drop next list)
  pub past : (u : ℕ) (v : List ℕ) → t < u → came u list v ≡ came u (drop next list) v
  pub present : came t list old ≡ came t (drop next list) w
  pub few : (k : ℕ) → get_or w k 0 ≤ print_limit * next

pub coming_first : {list : List Arrival} {t : ℕ} {w : List ℕ} {next : ℕ} → Ready list t w next → Coming list t w w next
coming_first {list} {t} {w} {next} r =
    record { listed = r.listed; within = r.within; due = r.due; past = λ u v h. r.past u v (omega arith); present = r.past t w (le_refl t); few = r.few }

module _ (list : List Arrival) (t : ℕ) (old w : List ℕ) (next : ℕ) (c : Coming list t old w next) (a : Arrival) (next_is : Stands list next a) where
  all_due : AllDue t (a ∷ drop (next + 1) list)
  all_due = subst (AllDue t) next_is.here c.due

  pub here_due : Due t a
  here_due = all_due.0

  pub coming_more : a.turn ≡ t → Coming list t old (joined a w) (next + 1)
  coming_more e =
      record {
        listed = c.listed;
        within = omega (arith, next_is.within);
        due = subst (λ (u : ℕ). AllDue u (drop (next + 1) list)) e all_due.1;
        past = λ u v l. c.past u v l ∙ ap (λ (d : List Arrival). came u d v) next_is.here ∙ came_not u a (drop (next + 1) list) v (λ z. omega arith);
        present = c.present ∙ ap (λ (d : List Arrival). came t d w) next_is.here ∙ came_now t a (drop (next + 1) list) w e;
        few = set_most w a.kiosk (get_or w a.kiosk 0 + a.prints) (print_limit * (next + 1)) (λ k. omega (arith, c.few k)) (omega (arith, c.few a.kiosk, here_due.few));
      }

  pub stops_here : (a.turn ≡ t → ⊥) → AllDue (t + 1) (drop next list)
  stops_here n =
      let s = all_due in
      subst (AllDue (t + 1)) (sym next_is.here) (record { later = omega (arith, s.0.later); there = s.0.there; few = s.0.few }, s.1)

module _ (list : List Arrival) (t : ℕ) (old w : List ℕ) (next : ℕ) (c : Coming list t old w next) where
  pub none_left : next ≡ length list → AllDue (t + 1) (drop next list)
  none_left e = rw (e, drop-length) tt

  pub all_came : AllDue (t + 1) (drop next list) → w ≡ came t list old
  all_came s = sym (c.present ∙ later-none t (t + 1) (drop next list) w (omega arith) s)

  pub next_ready : AllDue (t + 1) (drop next list) → Ready list (t + 1) w next
  next_ready s = record { listed = c.listed; within = c.within; due = s; past = λ u v h. c.past u v (omega arith); few = c.few }
