-- The whole number nearest to a double (rules 11.4 and 11.5), worked out from the double's own fraction: nothing is rounded on the way.
-- Assumes nothing.
use Rattle.std.specs.Prelude.{ℕ, ◌*◌, min, true, false, ℤ, pos, neg_ℤ, Float}
use Rattle.std.specs.Float.{nan, inf, fin, binary64}
use Rattle.std.specs.Float.Ieee.{up, down, div, of_int}
use Rattle.numbers.specs.Rounding.{nearest, nearest_down}

-- The nearest whole number, ties upward, clipped to −below..above. A finite double is `fin negative m e`, of size m × 2^e, which is
-- m × up e / down e. Ties upward of a negative number are ties downward of its size. What is not a number gets 0.
unfoldable pub nearest_whole : ℕ → ℕ → Float → ℤ
nearest_whole below above nan = pos 0
nearest_whole below above (inf true) = neg_ℤ (pos below)
nearest_whole below above (inf false) = pos above
nearest_whole below above (fin true m e) = neg_ℤ (pos (min below (nearest_down (m * up e) (down e))))
nearest_whole below above (fin false m e) = pos (min above (nearest (m * up e) (down e)))

-- The double nearest to a / b, ties to the even one: how examples write a double.
abbrev pub double : ℕ → ℕ → Float
double a b = div binary64 (of_int binary64 (pos a)) (of_int binary64 (pos b))
