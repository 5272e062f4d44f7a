-- Rounding a quotient of whole numbers. The rules break ties in two ways.
-- Assumes nothing.
use Rattle.std.specs.Prelude.{ℕ, ◌+◌, ◌-◌, ◌*◌, ◌/◌, min}

-- num / den to the nearest whole number, ties upward (rules 1.7, 1.8, 2.2, 2.5, 11.4, 11.5, 12.3, 12.5 and 12.6; of a size, 6.4).
unfoldable pub nearest : ℕ → ℕ → ℕ
nearest num den = (2 * num + den) / (2 * den)

-- (up − down) / den, rounded like that, and then clipped: it is at least 0 and at most `most` (rules 2.5, 12.3 and 12.5). A difference of
-- ℕ stops at 0, which clips what is below.
unfoldable pub clipped_to : ℕ → ℕ → ℕ → ℕ → ℕ
clipped_to most up down den = min most (nearest (up - down) den)

-- num / den to the nearest whole number, ties downward: of a size, that is towards zero (rule 2.3), and upward if the number is negative
-- (11.5).
unfoldable pub nearest_down : ℕ → ℕ → ℕ
nearest_down num den = (2 * num + den - 1) / (2 * den)
