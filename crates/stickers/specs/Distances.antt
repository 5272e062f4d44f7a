-- How far a pixel is from a tint, and which tint of a set it takes (rules 13.1 to 13.4). Tints are given by their codes, three
-- to a tint, and named by number. A set of tints is a first number and the others, ascending.
-- Assumes nothing.
use Rattle.std.specs.Prelude.{ℕ, ◌+◌, ◌-◌, ◌*◌, min, Bool, cond, List, [], ◌∷◌, eqb, ltb, get_or}
use Rattle.samples.specs.declared.Pixel.{Pixel}
use Rattle.samples.specs.Samples.{pixel}
use Rattle.lumachroma.specs.LumaChroma.{luma}

-- Rule 13.1: tint t, of the codes of all tints.
abbrev pub tint : List ℕ → ℕ → Pixel
tint tints t = pixel (get_or tints (3 * t) 0) (get_or tints (3 * t + 1) 0) (get_or tints (3 * t + 2) 0)

-- Rule 13.2: how far two codes are apart. One of the differences is 0, since ℕ's stops there.
abbrev pub apart : ℕ → ℕ → ℕ
apart x y = (x - y) + (y - x)

-- Rule 13.2: the distance of a pixel to a colour, and to tint t of some tints.
abbrev pub distance : Pixel → Pixel → ℕ
distance p q = apart p.first q.first + apart p.second q.second + apart p.third q.third

unfoldable pub away : List ℕ → Pixel → ℕ → ℕ
away tints p t = distance p (tint tints t)

-- Rule 13.3: the luma of tint t, rounded as rule 2.2 has it.
unfoldable pub tint_luma : List ℕ → ℕ → ℕ
tint_luma tints t = luma (tint tints t).first (tint tints t).second (tint tints t).third

-- Rule 13.3: of two tints that are as near, does y, whose number is the higher one, win from x? Only if it is darker.
abbrev pub darker : List ℕ → ℕ → ℕ → Bool
darker tints x y = ltb (tint_luma tints y) (tint_luma tints x)

-- Rule 13.3: does tint y, whose number is the higher one, win the pixel from tint x? If one of them is nearer, that one wins.
abbrev pub wins : List ℕ → Pixel → ℕ → ℕ → Bool
wins tints p x y = cond (eqb (away tints p y) (away tints p x)) (darker tints x y) (ltb (away tints p y) (away tints p x))

unfoldable pub winner : List ℕ → Pixel → ℕ → ℕ → ℕ
winner tints p x y = cond (wins tints p x y) y x

-- Rule 13.3: the tint that a pixel takes of tint x and others.
unfoldable pub nearest : List ℕ → Pixel → ℕ → List ℕ → ℕ
nearest tints p x [] = x
nearest tints p x (y ∷ ys) = nearest tints p (winner tints p x y) ys

-- Rule 13.4: the least distance, of m and those to some tints.
unfoldable pub least_of : List ℕ → Pixel → ℕ → List ℕ → ℕ
least_of tints p m [] = m
least_of tints p m (y ∷ ys) = least_of tints p (min m (away tints p y)) ys

-- Rule 13.4: a number of each pixel, summed.
unfoldable pub summed : (Pixel → ℕ) → List Pixel → ℕ
summed f [] = 0
summed f (p ∷ ps) = f p + summed f ps
