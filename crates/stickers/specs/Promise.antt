-- What is promised of the choices, of the one that is answered, and of the tints that pixels take (rules 13.3 to 13.6 and 13.9).
-- Assumes nothing.
use Rattle.std.specs.Prelude.{ℕ, ◌<◌, ◌≤◌, ◌≡◌, List, ◌⊎◌, length, get_or}
use Rattle.samples.specs.declared.Pixel.{Pixel}
use Rattle.stickers.specs.declared.Four.{Four}
use Rattle.stickers.specs.declared.Choice.{Choice}
use Rattle.stickers.specs.Distances.{away, tint_luma, summed}
use Rattle.stickers.specs.Choices.{tint_count, choices, first_choice, best, looked_at, tint_of, least_of_four, sum_of}

-- Four tints of different number.
pub record Ascending (f : Four) : Type 0 where
  pub low : f.first < f.second
  pub middle : f.second < f.third
  pub high : f.third < f.fourth
  pub there : f.fourth < tint_count

-- Where f stands in a list of choices.
pub record Listed (fs : List Four) (f : Four) : Type 0 where
  pub place : ℕ
  pub within : place < length fs
  pub is : get_or fs place first_choice ≡ f

-- Rule 13.5: so many choices there are, each is four tints of different number, and every four such tints are a choice.
pub record AllChoices : Type 0 where
  pub counted : length choices ≡ 1820
  pub ascending : (k : ℕ) → k < length choices → Ascending (get_or choices k first_choice)
  pub every : (f : Four) → Ascending f → Listed choices f

-- Rule 13.6: f is one of some choices, none of them has a smaller sum, and all before f have a greater one.
pub record Earliest (sum : Four → ℕ) (fs : List Four) (f : Four) : Type 0 where
  pub listed : Listed fs f
  pub least : (k : ℕ) → k < length fs → sum f ≤ sum (get_or fs k first_choice)
  pub before : (k : ℕ) → k < listed.place → sum f < sum (get_or fs k first_choice)

-- Rule 13.3: a pixel takes tint t before tint u, or they are the same: t is not farther; if it is as near, its luma is not greater; and
-- if that is the same too, its number is not higher.
pub record Before (tints : List ℕ) (p : Pixel) (t u : ℕ) : Type 0 where
  pub near : away tints p t ≤ away tints p u
  pub dark : away tints p t ≡ away tints p u → tint_luma tints t ≤ tint_luma tints u
  pub low : away tints p t ≡ away tints p u → tint_luma tints t ≡ tint_luma tints u → t ≤ u

-- Rule 13.3: tint t is one of four, and the pixel takes it before the others.
abbrev pub OneOf : Four → ℕ → Type 0
OneOf f t = (t ≡ f.first) ⊎ (t ≡ f.second) ⊎ (t ≡ f.third) ⊎ (t ≡ f.fourth)

pub record Takes (tints : List ℕ) (f : Four) (p : Pixel) (t : ℕ) : Type 0 where
  pub one : OneOf f t
  pub first : Before tints p t f.first
  pub second : Before tints p t f.second
  pub third : Before tints p t f.third
  pub fourth : Before tints p t f.fourth

-- Rule 13.4: the sum of four tints, if each pixel takes the one that some rule says; and a rule by which none of the four is nearer.
abbrev pub sum_by : List ℕ → (Four → Pixel → ℕ) → List Pixel → Four → ℕ
sum_by tints rule ps f = summed (λ p. away tints p (rule f p)) ps

abbrev pub TakesNearest : List ℕ → (Four → Pixel → ℕ) → Type 0
TakesNearest tints rule = (f : Four) (p : Pixel) → away tints p (rule f p) ≡ least_of_four tints f p

-- Rules 13.3, 13.4, 13.6 and 13.9, of the answer to a picture.
pub record Promised (tints : List ℕ) (ps : List Pixel) (budget : ℕ) (answer : Choice) : Type 0 where
  pub earliest : Earliest (sum_of tints ps) (looked_at budget) answer.four
  pub sum : answer.sum ≡ sum_of tints ps answer.four
  -- no pixel has a tint of the four that is nearer than the one written
  pub nearest : (p : Pixel) → away tints p (tint_of tints answer.four p) ≡ least_of_four tints answer.four p
  -- and of those as near it has the darkest, with the lowest number
  pub takes : (p : Pixel) → Takes tints answer.four p (tint_of tints answer.four p)
  -- whichever of the nearest tints a rule takes, the four and the sum are these
  pub ties :
      (rule : Four → Pixel → ℕ) → TakesNearest tints rule
      → (answer.four ≡ best (sum_by tints rule ps) (looked_at budget)) × (answer.sum ≡ sum_by tints rule ps answer.four)
  -- no four tints have a sum below that with all tints
  pub bound : (f : Four) → Ascending f → answer.least ≤ sum_of tints ps f
  -- with the budget for all choices, no four tints have a smaller sum than the answer
  pub best : length choices ≤ budget → (f : Four) → Ascending f → answer.sum ≤ sum_of tints ps f
