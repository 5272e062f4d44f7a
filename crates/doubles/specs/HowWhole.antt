-- How the code finds the whole number nearest to a double: by its size.
-- Assumes nothing.
use Rattle.std.specs.Prelude.{ℕ, ◌*◌, min, true, false, Float}
use Rattle.std.specs.Float.{nan, inf, fin}
use Rattle.std.specs.Float.Ieee.{up, down}
use Rattle.numbers.specs.Rounding.{nearest, nearest_down}
use Rattle.doubles.specs.declared.Ties.{Ties}
use Rattle.doubles.specs.declared.Ties.TheVariants.{Up, Down}

-- A quotient to the nearest whole number, a tie upward or downward.
unfoldable pub nearest_by : Ties → ℕ → ℕ → ℕ
nearest_by Up = nearest
nearest_by Down = nearest_down

-- The nearest whole number of a double above 0, clipped to 0..top, and 0 of any other.
unfoldable pub nearest_size : Ties → ℕ → Float → ℕ
nearest_size ties top nan = 0
nearest_size ties top (inf true) = 0
nearest_size ties top (inf false) = top
nearest_size ties top (fin true m e) = 0
nearest_size ties top (fin false m e) = min top (nearest_by ties (m * up e) (down e))
