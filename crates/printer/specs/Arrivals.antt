-- Arrivals of prints, and which lists of them are refused (rules 14.1 and 14.2).
-- Assumes nothing.
use Rattle.std.specs.Prelude.{ℕ, ◌+◌, ◌/◌, ◌%◌, Bool, cond, ◌&&◌, List, [], ◌∷◌, eqb, leb, ltb, length}
use Rattle.numbers.specs.Threes.{threes}
use Rattle.refusal.specs.Answers.{Verdict, sound, faulty, Said, accepted, decides}
use Rattle.printer.specs.declared.Arrival.{Arrival}

-- Rule 14.1: three numbers make an arrival.
abbrev pub arrival_size : ℕ
arrival_size = 3

abbrev pub arrival : ℕ → ℕ → ℕ → Arrival
arrival turn kiosk prints = record { turn = turn; kiosk = kiosk; prints = prints }

-- What stands for an arrival behind the last.
abbrev pub no_arrival : Arrival
no_arrival = arrival 0 0 0

unfoldable pub arrivals : List ℕ → List Arrival
arrivals numbers = threes arrival numbers

-- Rule 14.2: the limits.
abbrev pub kiosk_count : ℕ
kiosk_count = 8

abbrev pub print_limit : ℕ
print_limit = 999

abbrev pub turn_limit : ℕ
turn_limit = 100000

abbrev pub arrival_limit : ℕ
arrival_limit = 1000

-- Rule 14.2: does arrival number i keep them, if the one in front of it came in turn `before`?
unfoldable pub keeps_limits : ℕ → ℕ → Arrival → Bool
keeps_limits i before a =
    ltb i arrival_limit
    && (leb before a.turn
    && (ltb a.turn turn_limit
    && (ltb a.kiosk kiosk_count
    && (leb 1 a.prints
    && leb a.prints print_limit))))

abbrev pub arrival_fault : ℕ → ℕ → Arrival → Verdict
arrival_fault i before a = cond (keeps_limits i before a) sound (faulty 22)

-- Rule 14.2: the first arrival at fault, of those from number i on; or `done`. In front of the first there is none, which is as good
-- as one of turn 0.
unfoldable pub arrivals_say : Said → ℕ → ℕ → List Arrival → Said
arrivals_say done i before [] = done
arrivals_say done i before (a ∷ rest) = decides (arrival_fault i before a) i (arrivals_say done (i + 1) a.turn rest)

-- Rule 14.2, behind the last arrival: numbers at the end that are too few for one are at fault as an arrival. Else all turns are accepted.
abbrev pub rest_fault : ℕ → Verdict
rest_fault numbers = cond (eqb (numbers % arrival_size) 0) sound (faulty 22)

abbrev pub end_says : List ℕ → ℕ → Said
end_says numbers turns = decides (rest_fault (length numbers)) (length numbers / arrival_size) (accepted turns)

-- Rules 14.2 and 14.5: what is said of a list and a number of turns.
unfoldable pub simulation_says : List ℕ → ℕ → Said
simulation_says numbers turns = arrivals_say (end_says numbers turns) 0 0 (arrivals numbers)
