-- The choices of four tints, in their order, and the one that is chosen (rules 13.4 to 13.6).
-- Assumes nothing.
use Rattle.std.specs.Prelude.{ℕ, zero, suc, ◌+◌, ◌-◌, ◌*◌, min, cond, List, [], ◌∷◌, ◌++◌, map, ltb, length, take}
use Rattle.samples.specs.declared.Pixel.{Pixel}
use Rattle.stickers.specs.declared.Four.{Four}
use Rattle.stickers.specs.declared.Choice.{Choice}
use Rattle.stickers.specs.Distances.{away, nearest, least_of, summed}

-- Rule 13.1: how many tints there are, and how many codes they have.
abbrev pub tint_count : ℕ
tint_count = 16

abbrev pub tint_codes : ℕ
tint_codes = 3 * tint_count

-- `count` numbers from n on; and the tints' numbers from n on.
unfoldable pub upward : ℕ → ℕ → List ℕ
upward zero n = []
upward (suc count) n = n ∷ upward count (n + 1)

abbrev pub from : ℕ → List ℕ
from n = upward (tint_count - n) n

abbrev pub four : ℕ → ℕ → ℕ → ℕ → Four
four a b c d = record { first = a; second = b; third = c; fourth = d }

-- Rule 13.5: all choices. For each first number, for each second above it, and so on: in lexicographic order.
unfoldable pub for_each : List ℕ → (ℕ → List Four) → List Four
for_each [] f = []
for_each (n ∷ ns) f = f n ++ for_each ns f

unfoldable pub choices : List Four
choices =
    for_each (from 0) (λ a.
    for_each (from (a + 1)) (λ b.
    for_each (from (b + 1)) (λ c.
    map (four a b c) (from (c + 1)))))

abbrev pub first_choice : Four
first_choice = four 0 1 2 3

-- Rule 13.3: the tint that a pixel takes of a choice.
abbrev pub others : Four → List ℕ
others f = f.second ∷ f.third ∷ f.fourth ∷ []

abbrev pub tint_of : List ℕ → Four → Pixel → ℕ
tint_of tints f p = nearest tints p f.first (others f)

-- Rule 13.4: the least distance of a pixel to a choice, and the sum of a choice over a picture; the same with all tints.
abbrev pub least_of_four : List ℕ → Four → Pixel → ℕ
least_of_four tints f p = least_of tints p (away tints p f.first) (others f)

abbrev pub sum_of : List ℕ → List Pixel → Four → ℕ
sum_of tints ps f = summed (least_of_four tints f) ps

abbrev pub least_of_all : List ℕ → Pixel → ℕ
least_of_all tints p = least_of tints p (away tints p 0) (from 1)

abbrev pub sum_of_all : List ℕ → List Pixel → ℕ
sum_of_all tints ps = summed (least_of_all tints) ps

-- Rule 13.6: the earliest with the smallest sum, of f and choices after it. A later one has to have a smaller sum.
unfoldable pub best_from : (Four → ℕ) → Four → List Four → Four
best_from sum f [] = f
best_from sum f (g ∷ gs) = best_from sum (cond (ltb (sum g) (sum f)) g f) gs

-- Without a choice there is none to take; a budget of 0 is refused.
unfoldable pub best : (Four → ℕ) → List Four → Four
best sum [] = first_choice
best sum (f ∷ fs) = best_from sum f fs

-- Rule 13.6: how many choices a budget allows, and which they are.
abbrev pub allowed : ℕ → ℕ
allowed budget = min budget (length choices)

abbrev pub looked_at : ℕ → List Four
looked_at budget = take budget choices

unfoldable pub chosen : List ℕ → List Pixel → ℕ → Four
chosen tints ps budget = best (sum_of tints ps) (looked_at budget)

-- Rule 13.7: what is answered.
unfoldable pub choice_of : List ℕ → List Pixel → ℕ → Choice
choice_of tints ps budget =
    record {
      four = chosen tints ps budget;
      sum = sum_of tints ps (chosen tints ps budget);
      looked = allowed budget;
      least = sum_of_all tints ps;
    }
