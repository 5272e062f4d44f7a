-- A picture of codes through light that is moved, and back to codes (rule 6.12).
-- Assumes nothing.
use Rattle.std.specs.Prelude.{ℕ, ◌≤◌, min, ◌≡◌, true, false, ℤ, pos, negsuc, nat_abs, ◌+ℤ◌, length, get_or}
use mathlib.Core.List.{List, zip_with}
use Rattle.refusal.specs.Answers.{Verdict, or_else, Said, accepted, refuses_or, leaves}
use Rattle.samples.specs.Faults.{room_fault, call_fault}
use Rattle.transfer.specs.Light.{greatest_light}
use Rattle.transfer.specs.Level.{offers_codes}
use Rattle.transfer.specs.Steady.{most_moved}
use Rattle.linear.specs.Operations.{codes_to_light_says, codes_to_light, light_to_codes}

-- The number of 32 bits nearest to a sum; negsuc k is −(k + 1).
abbrev pub clipped : ℤ → ℤ
clipped (pos k) = pos (min greatest_light k)
clipped (negsuc k) = negsuc (min greatest_light k)

abbrev pub moved : ℤ → ℤ → ℤ
moved light move = clipped (light +ℤ move)

-- The light of each code, moved, and what comes back.
abbrev pub moved_light : ℕ → List ℕ → List ℤ → List ℤ
moved_light n codes moves = zip_with moved (codes_to_light n codes) moves

abbrev pub moved_codes : ℕ → List ℕ → List ℤ → List ℕ
moved_codes n codes moves = light_to_codes n (moved_light n codes moves)

-- Depth and lengths, in the order of rule 4.2: as those of codes to light, at the depths that light has codes at; then a move for each
-- number of light, and as many bytes for the codes that come back.
abbrev pub through_fault : ℕ → ℕ → ℕ → ℕ → ℕ → Verdict
through_fault n codes moves light back =
    or_else (call_fault (offers_codes n) true false codes light) (or_else (room_fault light moves) (room_fault codes back))

-- At last the codes, as codes to light judges them.
abbrev pub through_says : ℕ → List ℕ → ℕ → ℕ → ℕ → Said
through_says n codes moves light back = refuses_or (through_fault n (length codes) moves light back) (codes_to_light_says n codes light)

-- What a call promises, with light and codes as it finds them and, marked ', as it leaves them. If it is accepted, and no move is greater
-- than rule 6.10 allows, the codes that come back are those that went.
pub record Through (n : ℕ) (codes : List ℕ) (moves light light' : List ℤ) (back back' : List ℕ) (answer : Said) : Type 0 where
  pub says : answer ≡ through_says n codes (length moves) (length light) (length back)
  pub numbers : light' ≡ leaves answer (moved_light n codes moves) light
  pub bytes : back' ≡ leaves answer (moved_codes n codes moves) back
  pub steady : (pixels : ℕ) → answer ≡ accepted pixels → ((k : ℕ) → nat_abs (get_or moves k (pos 0)) ≤ most_moved n) → back' ≡ codes
