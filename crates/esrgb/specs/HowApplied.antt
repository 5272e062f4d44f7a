-- How the code applies a rule to each sample: the arithmetic that the picture loops run, with the numbers of a depth worked out before.
-- Assumes nothing.
use Rattle.std.specs.Prelude.{ℕ, ◌+◌, ◌-◌, ◌*◌, ◌/◌, ◌%◌, ◌^◌, min, ◌≡◌, Bool, cond, leb, ltb}
use Rattle.esrgb.specs.Depths.{greatest, offset, step, scale}
use Rattle.esrgb.specs.declared.Line.{Line}
use Rattle.esrgb.specs.declared.Cut.{Cut}
use Rattle.esrgb.specs.declared.Gamut.{Gamut}
use Rattle.esrgb.specs.declared.Rounding.{Rounding}
use Rattle.esrgb.specs.declared.DepthChange.{DepthChange}
use Rattle.esrgb.specs.declared.DepthChange.TheVariants.{Up, Down}

unfoldable pub affine : Line → ℕ → ℕ
affine line x = (line.factor * x + line.offset) % 65536

unfoldable pub to_eight : Cut → ℕ → ℕ
to_eight cut x = min 255 ((x - cut.low) / 2 ^ (cut.shift % 16))

unfoldable pub round : Rounding → ℕ → ℕ
round rounding x = (min 65535 (x + rounding.lift) / 2 ^ (rounding.shift % 16) + 65536 - rounding.base) % 65536

abbrev pub changed : DepthChange → ℕ → ℕ
changed (Up line) x = affine line x
changed (Down rounding) x = round rounding x

-- What a rule makes of a sample is a definition's, in the 16 bits of a sample.
abbrev pub Computes : (ℕ → ℕ) → (ℕ → ℕ) → Type 0
Computes rule f = (x : ℕ) → rule x % 65536 ≡ f x % 65536

-- The numbers of the rules, at depths n and m. Others could compute the same, and are not meant.
abbrev pub line_of : ℕ → Line
line_of n = record { factor = step n; offset = offset n }

abbrev pub cut_of : ℕ → Cut
cut_of n = record { low = offset n - step n / 2; shift = n - 9 }

-- The codes that sRGB holds; how far a code is above the lowest of them, in 16 bits, where one below it is at the top; and whether it is not
-- among them.
abbrev pub gamut_of : ℕ → Gamut
gamut_of n = record { lowest = offset n; span = scale n }

abbrev pub above_lowest : Gamut → ℕ → ℕ
above_lowest gamut x = (x + 65536 - gamut.lowest) % 65536

abbrev pub outside : Gamut → ℕ → Bool
outside gamut x = ltb gamut.span (above_lowest gamut x)

-- Codes of n bits are lifted to the end of 16 bits, and by half of what they are divided by. A sum that would pass 65,535 is that of a
-- code whose nearest is above the greatest of m bits: so the clip is where sums stop.
abbrev pub rounding_of : ℕ → ℕ → Rounding
rounding_of n m =
    record {
      lift = 65535 - greatest n + 2 ^ (n - m - 1);
      shift = n - m;
      base = (65535 - greatest n) / 2 ^ (n - m);
    }

abbrev pub change_of : ℕ → ℕ → DepthChange
change_of n m = cond (leb n m) (Up (record { factor = 2 ^ (m - n); offset = 0 })) (Down (rounding_of n m))
