-- A turn, and all turns (rules 14.3 to 14.5). Prints that wait are a list of numbers, one for each kiosk.
-- Assumes nothing.
use Rattle.std.specs.Prelude.{ℕ, zero, suc, ◌+◌, ◌-◌, ◌%◌, cond, List, [], ◌∷◌, ◌++◌, eqb, get_or, set, replicate}
use Rattle.printer.specs.declared.Arrival.{Arrival}
use Rattle.printer.specs.Arrivals.{kiosk_count}

-- Rule 14.3: the prints of an arrival join those that wait for its kiosk; and what waits once all arrivals of turn t have come.
abbrev pub joined : Arrival → List ℕ → List ℕ
joined a waiting = set waiting a.kiosk (get_or waiting a.kiosk 0 + a.prints)

unfoldable pub came : ℕ → List Arrival → List ℕ → List ℕ
came t [] waiting = waiting
came t (a ∷ rest) waiting = came t rest (cond (eqb a.turn t) (joined a waiting) waiting)

-- Rule 14.4: the kiosk behind kiosk k, going round; and what stands for none.
abbrev pub behind : ℕ → ℕ
behind k = (k + 1) % kiosk_count

abbrev pub idle : ℕ
idle = 255

-- Rule 14.4: the first kiosk with prints waiting, of as many as are left to look at, from kiosk k on.
unfoldable pub next_from : List ℕ → ℕ → ℕ → ℕ
next_from waiting zero k = idle
next_from waiting (suc left) k = cond (eqb (get_or waiting k 0) 0) (next_from waiting left (behind k)) k

abbrev pub next_kiosk : List ℕ → ℕ → ℕ
next_kiosk waiting first = next_from waiting kiosk_count first

-- The printer between two turns: the prints that wait, and the kiosk that is looked at first.
pub record Printer : Type 0 where
  pub waiting : List ℕ
  pub first : ℕ

abbrev pub printer : List ℕ → ℕ → Printer
printer waiting first = record { waiting = waiting; first = first }

-- Rule 14.4: what is left once a print is made for kiosk k, behind which the next turn goes on. Without a print all stays.
unfoldable pub after_print : List ℕ → ℕ → ℕ → Printer
after_print waiting first k =
    cond (eqb k idle) (printer waiting first) (printer (set waiting k (get_or waiting k 0 - 1)) (behind k))

-- Rules 14.3 and 14.4: one turn.
unfoldable pub after_turn : List Arrival → ℕ → Printer → Printer
after_turn list t p = after_print (came t list p.waiting) p.first (next_kiosk (came t list p.waiting) p.first)

-- Rule 14.4: before the first turn nothing waits, and kiosk 0 is the first to be looked at.
unfoldable pub new_printer : Printer
new_printer = printer (replicate kiosk_count 0) 0

-- The printer as turn t finds it.
unfoldable pub printer_at : List Arrival → ℕ → Printer
printer_at list zero = new_printer
printer_at list (suc t) = after_turn list t (printer_at list t)

-- Rule 14.4: what waits in turn t before its print is made, and the byte that it writes.
abbrev pub waiting_in : List Arrival → ℕ → List ℕ
waiting_in list t = came t list (printer_at list t).waiting

unfoldable pub turn_byte : List Arrival → ℕ → ℕ
turn_byte list t = next_kiosk (waiting_in list t) (printer_at list t).first

-- Rule 14.5: the bytes of the first n turns.
unfoldable pub turn_bytes : List Arrival → ℕ → List ℕ
turn_bytes list zero = []
turn_bytes list (suc n) = turn_bytes list n ++ (turn_byte list n ∷ [])
