-- No print is lost, no kiosk waits for more than eight turns, and no turn is left unused while one waits.
-- Assumes nothing.
use Prim.Native.Nat.{ℕ, zero, suc, ◌+◌, ◌-◌, ◌≤◌, ◌<◌}
use mathlib.Core.Path.{◌≡◌, refl, sym, ap, ◌∙◌}
use mathlib.Core.Bool.{Bool, true, false, cond, ◌&&◌}
use mathlib.Core.List.{List, [], ◌∷◌}
use mathlib.Core.Logic.{⊎_elim}
use native.Mathlib.Nat.{eq-or-lt_of_le}
use native.Mathlib.Numerals.{add-one}
use native.Mathlib.Omega.{arith}
use lib.Dec.{ltb, eqb}
use lib.ListN.{length, get_or, set, take, replicate, length-append, length-set, get_or-append}
use lib.Seq.{get_or_at, take_all, take-append-le}
use borrow.Author.Tests.{ltb-true, ltb-false, lt-ltb, le-ltb, eqb-true, eqb-false, ne_eqb}
use Rattle.numbers.specs.Counting.{how_many}
use Rattle.numbers.proofs.Counting.{count-append}
use Rattle.printer.specs.declared.Arrival.{Arrival}
use Rattle.printer.specs.Arrivals.{kiosk_count}
use Rattle.printer.specs.Turns.{joined, came, behind, idle, next_kiosk, Printer, printer, after_print, after_turn, new_printer, printer_at, waiting_in, turn_byte, turn_bytes}
use Rattle.printer.specs.Fairness.{arrived, made, waiting_after, Waits, Fair}
use Rattle.printer.specs.HowRun.{Servable}
use Rattle.printer.proofs.Arriving.{set_here, set_elsewhere}
use Rattle.printer.proofs.Rounds.{ahead, next_servable, next_nearer}

-- ---- prints that come
-- The prints that come for kiosk k in turn t.
arriving : List Arrival → ℕ → ℕ → ℕ
arriving [] t k = 0
arriving (a ∷ list) t k = cond (eqb a.turn t && eqb a.kiosk k) a.prints 0 + arriving list t k

length_by : (w : List ℕ) (i v : ℕ) (b : Bool) → length (cond b (set w i v) w) ≡ length w
length_by w i v true = length-set w i v
length_by w i v false = refl

length-came : (t : ℕ) (list : List Arrival) (w : List ℕ) → length (came t list w) ≡ length w
unfolding came
length-came t [] w = refl
length-came t (a ∷ list) w =
    length-came t list (cond (eqb a.turn t) (joined a w) w)
    ∙ length_by w a.kiosk (get_or w a.kiosk 0 + a.prints) (eqb a.turn t)

adds : (w : List ℕ) (k i p rest : ℕ) (now this : Bool) → eqb i k ≡ this → k < length w
    → get_or (cond now (set w i (get_or w i 0 + p)) w) k 0 + rest ≡ get_or w k 0 + (cond (now && this) p 0 + rest)
adds w k i p rest true true e h =
    let q = eqb-true i k e in
    omega (arith, set_here w i k (get_or w i 0 + p) h q, ap (λ (x : ℕ). get_or w x 0) q)
adds w k i p rest true false e h = omega (arith, set_elsewhere w i k (get_or w i 0 + p) (eqb-false i k e))
adds w k i p rest false this e h = omega arith

came_adds : (t k : ℕ) (list : List Arrival) (w : List ℕ) → k < length w → get_or (came t list w) k 0 ≡ get_or w k 0 + arriving list t k
unfolding came arriving
came_adds t k [] w h = omega arith
came_adds t k (a ∷ list) w h =
    let more = get_or w a.kiosk 0 + a.prints in
    came_adds t k list (cond (eqb a.turn t) (joined a w) w) (rw (length_by w a.kiosk more (eqb a.turn t)) h)
    ∙ adds w k a.kiosk a.prints (arriving list t k) (eqb a.turn t) (eqb a.kiosk k) refl h

by_then : (x t p : ℕ) (this before now : Bool) → ltb x t ≡ before → eqb x t ≡ now
    → cond (ltb x (suc t) && this) p 0 ≡ cond (before && this) p 0 + cond (now && this) p 0
by_then x t p this true true e f = absurd (omega (arith, ltb-true x t e, eqb-true x t f))
by_then x t p this true false e f = simp (lt-ltb x (suc t) (omega (arith, ltb-true x t e))) (omega arith)
by_then x t p this false true e f = simp (lt-ltb x (suc t) (omega (arith, eqb-true x t f))) (omega arith)
by_then x t p this false false e f =
    let n = eqb-false x t f in
    simp (le-ltb x (suc t) (omega (arith, ltb-false x t e)))

arrived-more : (list : List Arrival) (t k : ℕ) → arrived list (suc t) k ≡ arrived list t k + arriving list t k
unfolding arrived arriving
arrived-more [] t k = refl
arrived-more (a ∷ list) t k =
    omega (arith, arrived-more list t k, by_then a.turn t a.prints (eqb a.kiosk k) (ltb a.turn t) (eqb a.turn t) refl refl)

arrived-none : (list : List Arrival) (k : ℕ) → arrived list 0 k ≡ 0
unfolding arrived
arrived-none [] k = refl
arrived-none (a ∷ list) k = simp (le-ltb a.turn 0 (omega arith)) (omega (arith, arrived-none list k))

-- ---- a print that is made
module _ (w : List ℕ) (first b : ℕ) where
  abbrev one-made : Printer
  one-made = printer (set w b (get_or w b 0 - 1)) (behind b)

  -- What holds with a print and without one.
  pub print_holds : (P : Printer → Type 0) → (b ≡ idle → P (printer w first)) → ((b ≡ idle → ⊥) → P one-made) → P (after_print w first b)
  unfolding after_print
  print_holds P none one = by (eqb b idle) refl
    where
      by : (x : Bool) → eqb b idle ≡ x → P (cond {A = Printer} x (printer w first) one-made)
      by true e = none (eqb-true b idle e)
      by false e = one (eqb-false b idle e)

  served_length : length (after_print w first b).waiting ≡ length w
  served_length = print_holds (λ p. length p.waiting ≡ length w) (λ z. refl) (λ z. length-set w b (get_or w b 0 - 1))

  pub served_first : first < kiosk_count → (after_print w first b).first < kiosk_count
  served_first h = print_holds (λ p. p.first < kiosk_count) (λ z. h) (λ z. omega arith)

  pub served_kiosk : b < kiosk_count → after_print w first b ≡ one-made
  served_kiosk h = print_holds (λ p. p ≡ one-made) (λ z. absurd (omega arith)) (λ z. refl)

  -- It is one print less for its kiosk, and none for the others.
  one_less : (k : ℕ) → k < kiosk_count → length w ≡ kiosk_count → Servable w b
      → get_or (after_print w first b).waiting k 0 + cond (eqb k b) 1 0 ≡ get_or w k 0
  one_less k h l s =
      print_holds (λ p. get_or p.waiting k 0 + cond (eqb k b) 1 0 ≡ get_or w k 0)
      (λ z. simp (ne_eqb k b (λ q. omega arith)) (omega arith))
      (took (eqb k b) refl)
    where
      took : (this : Bool) → eqb k b ≡ this → (b ≡ idle → ⊥) → get_or one-made.waiting k 0 + cond this 1 0 ≡ get_or w k 0
      took true e z =
          let q = eqb-true k b e in
          omega (arith, set_here w b k (get_or w b 0 - 1) (omega arith) (sym q), ap (λ (x : ℕ). get_or w x 0) q, s.waits z)
      took false e z = omega (arith, set_elsewhere w b k (get_or w b 0 - 1) (λ q. eqb-false k b e (sym q)))

-- ---- the printer as each turn finds it
pub record Sound (p : Printer) : Type 0 where
  pub whole : length p.waiting ≡ kiosk_count
  pub first : p.first < kiosk_count

pub always_sound : (list : List Arrival) (t : ℕ) → Sound (printer_at list t)
unfolding printer_at new_printer after_turn
always_sound list zero = record { whole = refl; first = omega arith }
always_sound list (suc t) =
    let p = printer_at list t in
    let s = always_sound list t in
    record {
      whole = served_length (waiting_in list t) p.first (next_kiosk (waiting_in list t) p.first) ∙ length-came t list p.waiting ∙ s.whole;
      first = served_first (waiting_in list t) p.first (next_kiosk (waiting_in list t) p.first) s.first;
    }

pub no_prints : (n k : ℕ) → ◌≡◌ {A = ℕ} (get_or (replicate n 0) k 0) 0
no_prints zero k = refl
no_prints (suc n) zero = refl
no_prints (suc n) (suc k) = no_prints n k

module _ (list : List Arrival) where
  waiting-more : (t k : ℕ) → k < kiosk_count → get_or (waiting_in list t) k 0 ≡ waiting_after list t k + arriving list t k
  waiting-more t k h = came_adds t k list (printer_at list t).waiting (omega (arith, (always_sound list t).whole))

  turn_servable : (t : ℕ) → Servable (waiting_in list t) (turn_byte list t)
  unfolding turn_byte
  turn_servable t = next_servable (waiting_in list t) kiosk_count (printer_at list t).first (always_sound list t).first

  turn_takes : (t k : ℕ) → k < kiosk_count → waiting_after list (suc t) k + cond (eqb k (turn_byte list t)) 1 0 ≡ get_or (waiting_in list t) k 0
  unfolding printer_at after_turn turn_byte
  turn_takes t k h =
      one_less (waiting_in list t) (printer_at list t).first (turn_byte list t) k h
      (length-came t list (printer_at list t).waiting ∙ (always_sound list t).whole) (turn_servable t)

  -- Made and waiting are arrived.
  kept : (t k : ℕ) → k < kiosk_count → made k (turn_bytes list t) + waiting_after list t k ≡ arrived list t k
  unfolding turn_bytes printer_at new_printer how_many
  kept zero k h = omega (arith, no_prints kiosk_count k, arrived-none list k)
  kept (suc t) k h =
      omega (
        arith,
        count-append (eqb k) (turn_bytes list t) (turn_byte list t ∷ []),
        turn_takes t k h,
        waiting-more t k h,
        arrived-more list t k,
        kept t k h,
      )

  -- ---- no kiosk waits for more than eight turns
  pub record Soon (t k most : ℕ) : Type 0 where
    pub later : ℕ
    pub soon : later ≤ most
    pub byte : turn_byte list (t + later) ≡ k

  -- Kiosk k waits in turn t, and another is served: in the next turn it is nearer, and still waits.
  pub record StillWaits (t k : ℕ) : Type 0 where
    pub nearer : ahead (printer_at list (suc t)).first k < ahead (printer_at list t).first k
    pub waits : 0 < get_or (waiting_in list (suc t)) k 0

  still_waits : (t k : ℕ) → k < kiosk_count → 0 < get_or (waiting_in list t) k 0 → (turn_byte list t ≡ k → ⊥) → StillWaits t k
  unfolding printer_at after_turn turn_byte
  still_waits t k h w n =
      let f = (printer_at list t).first in
      let b = turn_byte list t in
      let m = next_nearer (waiting_in list t) kiosk_count f k (always_sound list t).first h (omega arith) w n in
      let is = served_kiosk (waiting_in list t) f b m.0 in
      record {
        nearer = rw is m.1;
        waits = omega (arith, waiting-more (suc t) k h, simp (ne_eqb k b (λ q. n (sym q))) at (turn_takes t k h));
      }

  sooner : (t k : ℕ) → StillWaits t k → Soon (suc t) k (ahead (printer_at list (suc t)).first k) → Soon t k (ahead (printer_at list t).first k)
  sooner t k w s =
      let same : t + (s.later + 1) ≡ suc t + s.later = omega arith in
      record { later = s.later + 1; soon = omega (arith, s.soon, w.nearer); byte = ap (turn_byte list) same ∙ s.byte }

  soon_by : (t k most : ℕ) (now : Bool) → eqb (turn_byte list t) k ≡ now → ((turn_byte list t ≡ k → ⊥) → Soon t k most) → Soon t k most
  soon_by t k most true e more =
      let same : t + 0 ≡ t = omega arith in
      record { later = 0; soon = omega arith; byte = ap (turn_byte list) same ∙ eqb-true (turn_byte list t) k e }
  soon_by t k most false e more = more (eqb-false (turn_byte list t) k e)

  served_soon : (fuel t k : ℕ) → k < kiosk_count → ahead (printer_at list t).first k < fuel → 0 < get_or (waiting_in list t) k 0
      → Soon t k (ahead (printer_at list t).first k)
  served_soon zero t k h l w = absurd (omega arith)
  served_soon (suc fuel) t k h l w =
      soon_by t k (ahead (printer_at list t).first k) (eqb (turn_byte list t) k) refl
      (λ n.
      let still = still_waits t k h w n in
      sooner t k still (served_soon fuel (suc t) k h (omega (arith, still.nearer)) still.waits))

-- ---- the bytes
pub length-bytes : (list : List Arrival) (n : ℕ) → length (turn_bytes list n) ≡ n
unfolding turn_bytes
length-bytes list zero = refl
length-bytes list (suc n) = length-append (turn_bytes list n) _ ∙ omega (arith, length-bytes list n)

take-bytes : (list : List Arrival) (t n : ℕ) → t ≤ n → take t (turn_bytes list n) ≡ turn_bytes list t
unfolding turn_bytes
take-bytes list t zero h = let z : t ≡ 0 = omega arith in rw z
take-bytes list t (suc n) h =
    ⊎_elim
    (λ q. ap (λ (x : ℕ). take x (turn_bytes list (suc n))) q ∙ take_all (suc n) (turn_bytes list (suc n)) (omega (arith, length-bytes list (suc n))) ∙ ap (turn_bytes list) (sym q))
    (λ q. take-append-le t (turn_bytes list n) _ (omega (arith, length-bytes list n)) ∙ take-bytes list t n (omega arith))
    (eq-or-lt_of_le h)

byte_at : (list : List Arrival) (t n d : ℕ) → t < n → get_or (turn_bytes list n) t d ≡ turn_byte list t
unfolding turn_bytes
byte_at list t zero d h = absurd (omega arith)
byte_at list t (suc n) d h =
    ⊎_elim
    (λ q. get_or_at (turn_bytes list n) (turn_byte list n) [] d t (length-bytes list n ∙ omega arith) ∙ ap (turn_byte list) (omega arith))
    (λ q. get_or-append (turn_bytes list n) _ d t (omega (arith, length-bytes list n)) ∙ byte_at list t n d (omega arith))
    (eq-or-lt_of_le h)

-- ---- what is promised
module _ (list : List Arrival) (out : List ℕ) (n : ℕ) (e : out ≡ turn_bytes list n) where
  as_long : length out ≡ n
  as_long = ap length e ∙ length-bytes list n

  made-before : (t k : ℕ) → t ≤ n → made k (take t out) ≡ made k (turn_bytes list t)
  made-before t k h = ap (made k) (ap (take t) e ∙ take-bytes list t n h)

  waits_then : (t k : ℕ) → t ≤ n → k < kiosk_count → Waits list out t k → 0 < get_or (waiting_in list t) k 0
  waits_then t k h l w =
      let next = add-one t in
      omega (arith, w, ap (λ (x : ℕ). arrived list x k) next, made-before t k h, kept list t k l, arrived-more list t k, waiting-more list t k l)

  wrote : (t d : ℕ) → t < n → get_or out t d ≡ turn_byte list t
  wrote t d h = ap (λ (x : List ℕ). get_or x t d) e ∙ byte_at list t n d h

  never_unused : (t k : ℕ) → t < n → k < kiosk_count → get_or out t 0 ≡ idle → Waits list out t k → ⊥
  unfolding turn_byte
  never_unused t k h l i w =
      let b = sym (wrote t 0 h) ∙ i in
      let m = next_nearer (waiting_in list t) kiosk_count (printer_at list t).first k (always_sound list t).first l (omega arith) (waits_then t k (omega arith) l w) (λ z. omega arith) in
      omega (arith, m.0)

  pub fair : Fair list out
  fair =
      record {
        conserved = λ t k h l. omega (arith, made-before t k (omega (arith, as_long)), kept list t k l);
        soon = λ t k h l w.
            let s = served_soon list kiosk_count t k l (omega arith) (waits_then t k (omega (arith, as_long)) l w) in
            record { later = s.later; soon = omega (arith, s.soon); byte = wrote (t + s.later) idle (omega (arith, as_long, s.soon)) ∙ s.byte };
        unused = λ t k h l i w. never_unused t k (omega (arith, as_long)) l i w;
      }
