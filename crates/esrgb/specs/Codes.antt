-- One sample between 8-bit sRGB and e-sRGB, and from one depth to another (rules 1.6 to 1.9; PIMA 7667, A1 and A2).
-- Assumes nothing.
use Rattle.std.specs.Prelude.{ℕ, ◌+◌, ◌-◌, ◌*◌, ◌^◌, min, cond, ◌||◌, leb, ltb}
use Rattle.numbers.specs.Rounding.{nearest}
use Rattle.esrgb.specs.Depths.{greatest, offset, step, scale}
use Rattle.esrgb.specs.declared.SrgbSample.{SrgbSample}

-- Rule 1.6, for the 8-bit value a.
unfoldable pub from_srgb : ℕ → ℕ → ℕ
from_srgb n a = step n * a + offset n

-- Rule 1.7: the level over the step, nearest, ties upward, clipped to 8 bits. A difference of ℕ stops at 0, which clips negative levels.
-- Rule 1.9: whether the code itself is below that of black or above that of white, whatever rounding makes of it.
unfoldable pub to_srgb : ℕ → ℕ → SrgbSample
to_srgb n code =
    record { value = min 255 (nearest (code - offset n) (step n)); clipped = ltb code (offset n) || ltb (offset n + scale n) code }

-- The value alone.
abbrev pub srgb_value : ℕ → ℕ → ℕ
srgb_value n code = (to_srgb n code).value

-- Rule 1.8, from n bits to m. Up: by a power of two, which is 1 at equal depths. Down: nearest, ties upward, clipped to the greatest code.
unfoldable pub change_depth : ℕ → ℕ → ℕ → ℕ
change_depth n m code = cond (leb n m) (code * 2 ^ (m - n)) (min (greatest m) (nearest code (2 ^ (n - m))))
