-- Going round: which kiosk is served, and that it is not behind one that waits.
-- Assumes nothing.
use Prim.Native.Nat.{ℕ, zero, suc, ◌+◌, ◌-◌, ◌%◌, ◌<◌}
use mathlib.Core.Path.{◌≡◌, refl, ap, ◌∙◌}
use mathlib.Core.Bool.{Bool, true, false, cond}
use mathlib.Core.List.{List}
use native.Mathlib.Omega.{arith}
use lib.Dec.{eqb}
use lib.ListN.{get_or}
use borrow.Author.Tests.{eqb-true, eqb-false, eq-eqb, ne_eqb}
use Rattle.printer.specs.Arrivals.{kiosk_count}
use Rattle.printer.specs.Turns.{behind, idle, next_from}
use Rattle.printer.specs.HowRun.{Servable}

-- How many kiosks are looked at before kiosk x, from kiosk k on.
abbrev pub ahead : ℕ → ℕ → ℕ
ahead k x = (x + kiosk_count - k) % kiosk_count

one_nearer : (k x : ℕ) → k < kiosk_count → x < kiosk_count → (k ≡ x → ⊥) → ahead (behind k) x + 1 ≡ ahead k x
one_nearer k x h l n = omega arith

module _ (w : List ℕ) where
  pub next_on : (left fewer k : ℕ) → left ≡ suc fewer → get_or w k 0 ≡ 0 → next_from w left k ≡ next_from w fewer (behind k)
  unfolding next_from
  next_on left fewer k e h = ap (λ (n : ℕ). next_from w n k) e ∙ simp (eq-eqb (get_or w k 0) 0 h)

  pub next_here : (left fewer k : ℕ) → left ≡ suc fewer → (get_or w k 0 ≡ 0 → ⊥) → next_from w left k ≡ k
  unfolding next_from
  next_here left fewer k e h = ap (λ (n : ℕ). next_from w n k) e ∙ simp (ne_eqb (get_or w k 0) 0 h)

  pub next_none : (left k : ℕ) → left ≡ 0 → next_from w left k ≡ idle
  unfolding next_from
  next_none left k e = ap (λ (n : ℕ). next_from w n k) e

  -- Whoever is next has a print waiting.
  servable_by : (k b : ℕ) (none : Bool) → eqb (get_or w k 0) 0 ≡ none → k < kiosk_count → Servable w b → Servable w (cond none b k)
  servable_by k b true e h s = s
  servable_by k b false e h s =
      let n = eqb-false (get_or w k 0) 0 e in
      record { there = λ z. h; waits = λ z. positive (get_or w k 0) n }
    where
      positive : (x : ℕ) → (x ≡ 0 → ⊥) → 0 < x
      positive zero n = absurd (n refl)
      positive (suc x) n = omega arith

  pub next_servable : (left k : ℕ) → k < kiosk_count → Servable w (next_from w left k)
  unfolding next_from
  next_servable zero k h = record { there = λ z. absurd (z refl); waits = λ z. absurd (z refl) }
  next_servable (suc left) k h = servable_by k (next_from w left (behind k)) (eqb (get_or w k 0) 0) refl h (next_servable left (behind k) (omega arith))

  -- Where kiosk x waits and another is next, x is nearer behind that one.
  abbrev pub Nearer : ℕ → ℕ → ℕ → Type 0
  Nearer k x b = (b ≡ x → ⊥) → (b < kiosk_count) × (ahead (behind b) x < ahead k x)

  nearer_by :
      (k x b : ℕ) (none : Bool) → eqb (get_or w k 0) 0 ≡ none → k < kiosk_count → x < kiosk_count → 0 < get_or w x 0
      → ((k ≡ x → ⊥) → Nearer (behind k) x b) → Nearer k x (cond none b k)
  nearer_by k x b true e h l p more n =
      let z = eqb-true (get_or w k 0) 0 e in
      let other : k ≡ x → ⊥ = λ q. omega (arith, ap (λ (j : ℕ). get_or w j 0) q) in
      let m = more other n in
      (m.0, omega (arith, m.1, one_nearer k x h l other))
  nearer_by k x b false e h l p more n = (h, omega (arith, one_nearer k x h l n))

  pub next_nearer : (left k x : ℕ) → k < kiosk_count → x < kiosk_count → ahead k x < left → 0 < get_or w x 0 → Nearer k x (next_from w left k)
  unfolding next_from
  next_nearer zero k x h l a p = absurd (omega arith)
  next_nearer (suc left) k x h l a p =
      nearer_by k x (next_from w left (behind k)) (eqb (get_or w k 0) 0) refl h l p
      (λ other. next_nearer left (behind k) x (omega arith) l (omega (arith, one_nearer k x h l other)) p)
