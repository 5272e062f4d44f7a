-- 8-bit samples and their codes: what a code comes back as. It is shown once for every depth, over its step.
-- Assumes nothing.
use Prim.Native.Nat.{ℕ, ◌+◌, ◌*◌, ◌^◌, ◌≤◌, ◌<◌, min}
use mathlib.Core.Path.{◌≡◌, ap}
use native.Mathlib.Omega.{arith}
use native.Mathlib.Nat.{div-eq_of_lt-le, mul-add, mul-le-mul_left, le-pred_of_lt}
use Rattle.numbers.specs.Rounding.{nearest}
use Rattle.esrgb.specs.Depths.{step}
use Rattle.esrgb.specs.Codes.{from_srgb, to_srgb, srgb_value}
use Rattle.esrgb.specs.declared.Cut.{Cut}
use Rattle.esrgb.specs.HowApplied.{to_eight, cut_of}
use Rattle.esrgb.proofs.Scale.{Scale}
use Rattle.esrgb.proofs.Rules.{to_srgb_computes}

pub from_srgb_code : (n a : ℕ) → Scale n → a < 256 → from_srgb n a < 2 ^ n
unfolding from_srgb
from_srgb_code n a s h = omega (arith, mul-le-mul_left (step n) (le-pred_of_lt h))

pub from_srgb_next : (n a : ℕ) → from_srgb n (a + 1) ≡ from_srgb n a + step n
unfolding from_srgb
from_srgb_next n a = omega (arith, mul-add (step n) a 1)

pub to_srgb_byte : (n code : ℕ) → srgb_value n code < 256
unfolding to_srgb
to_srgb_byte n code = omega arith

-- A code less than half a step from that of a, or half a step below it, comes back as a, clipped.
pub to_srgb_nearest :
    (n a code : ℕ) → Scale n → 2 * from_srgb n a ≤ 2 * code + step n → 2 * code < 2 * from_srgb n a + step n
    → srgb_value n code ≡ min 255 a
unfolding from_srgb to_srgb nearest
to_srgb_nearest n a code s low high =
    ap (min 255) (div-eq_of_lt-le (2 * step n) (omega arith) (omega arith))

pub to_srgb_exact : (n a : ℕ) → Scale n → a < 256 → srgb_value n (from_srgb n a) ≡ a
to_srgb_exact n a s h = omega (arith, to_srgb_nearest n a (from_srgb n a) s (omega arith) (omega arith))

-- ---- single samples, as the code computes them
pub from_srgb_product : (n a : ℕ) → Scale n → step n * (a + 192) ≡ from_srgb n a
unfolding from_srgb
from_srgb_product n a s = omega (arith, mul-add (step n) a 192)

cut_byte : (cut : Cut) (x : ℕ) → to_eight cut x < 256
unfolding to_eight
cut_byte cut x = omega arith

pub cut_value : (n x : ℕ) → Scale n → to_eight (cut_of n) x ≡ srgb_value n x
cut_value n x s = omega (arith, to_srgb_computes n s x, cut_byte (cut_of n) x, to_srgb_byte n x)
