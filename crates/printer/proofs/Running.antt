-- The code's turns, one after another, are those of the definition.
-- Assumes nothing.
use Prim.Native.Nat.{ℕ, suc, ◌+◌, ◌-◌, ◌≤◌, ◌<◌}
use mathlib.Core.Path.{◌≡◌, refl, sym, ap, ◌∙◌}
use mathlib.Core.List.{List, ◌∷◌, [], ◌++◌, append_assoc, append-nil}
use native.Mathlib.Numerals.{add-one}
use native.Mathlib.Omega.{arith}
use lib.ListN.{length, get_or, set, drop, replicate, length-set}
use lib.Seq.{drop-cons, drop-length, set_at}
use Rattle.refusal.specs.Answers.{accepted}
use Rattle.printer.specs.declared.Arrival.{Arrival}
use Rattle.printer.specs.Arrivals.{arrivals, kiosk_count, simulation_says}
use Rattle.printer.specs.Turns.{came, idle, next_kiosk, Printer, printer, after_print, after_turn, new_printer, printer_at, turn_byte, turn_bytes}
use Rattle.printer.specs.HowRun.{Ready}
use Rattle.printer.proofs.Judging.{simulation-accepted}
use Rattle.printer.proofs.Arriving.{set_most}
use Rattle.printer.proofs.Fairness.{print_holds, served_first, no_prints, length-bytes}

-- ---- one turn
served_few : (w : List ℕ) (first b most : ℕ) → ((k : ℕ) → get_or w k 0 ≤ most) → (k : ℕ) → get_or (after_print w first b).waiting k 0 ≤ most
served_few w first b most h =
    print_holds w first b (λ p. (k : ℕ) → get_or p.waiting k 0 ≤ most) (λ z. h)
    (λ z. set_most w b (get_or w b 0 - 1) most h (omega (arith, h b)))

module _ (list : List Arrival) (t : ℕ) (before w left : List ℕ) (first b after next : ℕ) where
  pub turn_taken :
      w ≡ came t list before → Ready list (t + 1) w next → b ≡ next_kiosk w first → printer left after ≡ after_print w first b → first < kiosk_count
      → (b ≡ next_kiosk (came t list before) first) × ((printer left after ≡ after_turn list t (printer before first)) × (Ready list (t + 1) left next × (after < kiosk_count)))
  unfolding after_turn
  turn_taken e r f g h =
      let waiting : left ≡ (after_print w first b).waiting = ap (λ (p : Printer). p.waiting) g in
      let round : after ≡ (after_print w first b).first = ap (λ (p : Printer). p.first) g in (
        f ∙ ap (λ (x : List ℕ). next_kiosk x first) e,
        (
          g ∙ ap (after_print w first) f ∙ ap (λ (x : List ℕ). after_print x first (next_kiosk x first)) e,
          (
            record { listed = r.listed; within = r.within; due = r.due; past = r.past; few = rw waiting (served_few w first b _ r.few) },
            rw round (served_first w first b h),
          ),
        ),
      )

-- Where none is served, the printer stays as it is once the arrivals have come.
pub unused_turn :
    (list : List Arrival) (t : ℕ) (before w : List ℕ) (first : ℕ) → w ≡ came t list before → idle ≡ next_kiosk w first
    → printer w first ≡ after_turn list t (printer before first)
unfolding after_print after_turn
unused_turn list t before w first e f = ap (after_print w first) f ∙ ap (λ (x : List ℕ). after_print x first (next_kiosk x first)) e

-- ---- all turns
-- t turns are taken: their bytes are written, and the others stand as they were.
pub record Running (list : List Arrival) (old out waiting : List ℕ) (first next t : ℕ) : Type 0 where
  pub printer : printer waiting first ≡ printer_at list t
  pub ready : Ready list t waiting next
  pub round : first < kiosk_count
  pub turn : t ≤ length old
  pub whole : length out ≡ length old
  pub written : out ≡ turn_bytes list t ++ drop t old

pub running_first :
    (numbers out : List ℕ) (list : List Arrival) (n : ℕ) → list ≡ arrivals numbers → simulation_says numbers n ≡ accepted n
    → Running list out out (replicate kiosk_count 0) 0 0 0
unfolding printer_at turn_bytes new_printer
running_first numbers out list n is h =
    let a = simulation-accepted numbers n n h in
    record {
      printer = refl;
      ready = record { listed = rw is (omega (arith, a.few)); within = omega arith; due = rw is a.due; past = λ u w l. refl; few = λ k. omega (arith, no_prints kiosk_count k) };
      round = omega arith;
      turn = omega arith;
      whole = refl;
      written = refl;
    }

module _ (list : List Arrival) (old out waiting : List ℕ) (first next t : ℕ) (r : Running list old out waiting first next t) where
  pub running_more :
      (left : List ℕ) (b after then : ℕ) → t < length old → b ≡ next_kiosk (came t list waiting) first
      → printer left after ≡ after_turn list t (printer waiting first) → Ready list (t + 1) left then → after < kiosk_count
      → Running list old (set out t b) left after then (t + 1)
  unfolding printer_at turn_bytes turn_byte
  running_more left b after then h e f ready round =
      let byte : b ≡ turn_byte list t = e ∙ ap (λ (p : Printer). next_kiosk (came t list p.waiting) p.first) r.printer in
      record {
        printer = rw (add-one t) (f ∙ ap (after_turn list t) r.printer);
        ready = ready;
        round = round;
        turn = omega arith;
        whole = length-set out t b ∙ r.whole;
        written =
            ap (λ (l : List ℕ). set l t b) (r.written ∙ ap (λ (l : List ℕ). turn_bytes list t ++ l) (drop-cons old t 0 h))
            ∙ set_at (turn_bytes list t) (get_or old t 0) (drop (suc t) old) b t (length-bytes list t)
            ∙ ap (λ (x : ℕ). turn_bytes list t ++ (x ∷ drop (suc t) old)) byte
            ∙ sym (append_assoc (turn_bytes list t) (turn_byte list t ∷ []) (drop (suc t) old))
            ∙ ap (λ (n : ℕ). turn_bytes list n ++ drop n old) (sym (add-one t));
      }

  pub running_last : t ≡ length old → out ≡ turn_bytes list (length old)
  running_last e = r.written ∙ rw (e, drop-length, append-nil)
