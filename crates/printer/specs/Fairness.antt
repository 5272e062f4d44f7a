-- What is promised of the turns that are written (rules 14.6 to 14.8).
-- Assumes nothing.
use Rattle.std.specs.Prelude.{ℕ, ◌+◌, ◌≤◌, ◌<◌, ◌≡◌, cond, ◌&&◌, List, [], ◌∷◌, eqb, ltb, length, get_or, take}
use Rattle.numbers.specs.Counting.{how_many}
use Rattle.printer.specs.declared.Arrival.{Arrival}
use Rattle.printer.specs.Arrivals.{kiosk_count}
use Rattle.printer.specs.Turns.{idle, printer_at}

-- The prints that come for kiosk k in the first n turns.
unfoldable pub arrived : List Arrival → ℕ → ℕ → ℕ
arrived [] n k = 0
arrived (a ∷ rest) n k = cond (ltb a.turn n && eqb a.kiosk k) a.prints 0 + arrived rest n k

-- The prints that are made for kiosk k in turns that wrote these bytes.
abbrev pub made : ℕ → List ℕ → ℕ
made k bytes = how_many (eqb k) bytes

-- The prints that wait for kiosk k after n turns.
abbrev pub waiting_after : List Arrival → ℕ → ℕ → ℕ
waiting_after list n k = get_or (printer_at list n).waiting k 0

-- Kiosk k has prints waiting in turn t: more have come for it, those of turn t too, than were made in the turns before.
abbrev pub Waits : List Arrival → List ℕ → ℕ → ℕ → Type 0
Waits list bytes t k = made k (take t bytes) < arrived list (t + 1) k

-- One of the turns from t on, as many as there are kiosks, is kiosk k's.
pub record ServedSoon (bytes : List ℕ) (t k : ℕ) : Type 0 where
  pub later : ℕ
  pub soon : later < kiosk_count
  pub byte : get_or bytes (t + later) idle ≡ k

pub record Fair (list : List Arrival) (bytes : List ℕ) : Type 0 where
  -- Rule 14.6: after each turn, for each kiosk, the prints made and those waiting are the prints that came.
  pub conserved : (n k : ℕ) → n ≤ length bytes → k < kiosk_count → made k (take n bytes) + waiting_after list n k ≡ arrived list n k
  -- Rule 14.7: of eight turns one serves a kiosk that has prints waiting in the first of them.
  pub soon : (t k : ℕ) → t + kiosk_count ≤ length bytes → k < kiosk_count → Waits list bytes t k → ServedSoon bytes t k
  -- Rule 14.8: a turn without a print is one in which no kiosk has prints waiting.
  pub unused : (t k : ℕ) → t < length bytes → k < kiosk_count → get_or bytes t 0 ≡ idle → Waits list bytes t k → ⊥
