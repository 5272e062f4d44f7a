-- How the code goes about the arrivals: one after another, each once. The proofs show that this comes to what each turn takes from the
-- whole list.
-- Assumes nothing.
use Rattle.std.specs.Prelude.{ℕ, ◌*◌, ◌≤◌, ◌<◌, ◌≡◌, List, [], ◌∷◌, length, get_or, drop, map}
use Rattle.printer.specs.declared.Arrival.{Arrival}
use Rattle.printer.specs.Arrivals.{kiosk_count, print_limit, arrival_limit, arrival}
use Rattle.printer.specs.Turns.{idle, came}

-- The arrival of three numbers, and those of a list of threes.
abbrev pub arrival_of : List ℕ → Arrival
arrival_of row = arrival (get_or row 0 0) (get_or row 1 0) (get_or row 2 0)

unfoldable pub listed : List (List ℕ) → List Arrival
listed rows = map arrival_of rows

-- What a loop needs of an arrival that is to come in turn t or later.
pub record Due (t : ℕ) (a : Arrival) : Type 0 where
  pub later : t ≤ a.turn
  pub there : a.kiosk < kiosk_count
  pub few : a.prints ≤ print_limit

-- Arrivals in ascending turns, from turn t on.
abbrev pub AllDue : ℕ → List Arrival → Type 0
AllDue t [] = Unit
AllDue t (a ∷ rest) = Due t a × AllDue a.turn rest

-- Turn t may begin: of the arrivals those before number `next` are past, and the others are not.
pub record Ready (list : List Arrival) (t : ℕ) (waiting : List ℕ) (next : ℕ) : Type 0 where
  pub listed : length list ≤ arrival_limit
  pub within : next ≤ length list
  pub due : AllDue t (drop next list)
  pub past : (u : ℕ) (w : List ℕ) → t ≤ u → came u list w ≡ came u (drop next list) w
  pub few : (k : ℕ) → get_or waiting k 0 ≤ print_limit * next

-- Kiosk k has a print waiting.
pub record HasPrint (waiting : List ℕ) (k : ℕ) : Type 0 where
  pub there : k < kiosk_count
  pub waits : 0 < get_or waiting k 0

-- The same of what a turn writes: kiosk k has a print waiting, or is none.
pub record Servable (waiting : List ℕ) (k : ℕ) : Type 0 where
  pub there : (k ≡ idle → ⊥) → k < kiosk_count
  pub waits : (k ≡ idle → ⊥) → 0 < get_or waiting k 0
