-- The codes that sRGB holds: how far a code is above the lowest of them tells by one test what the definition says of both sides; and the
-- code of an 8-bit value is one of them.
-- Assumes nothing.
use Prim.Native.Nat.{ℕ, ◌+◌, ◌≤◌, ◌<◌}
use mathlib.Core.Path.{◌≡◌}
use mathlib.Core.Bool.{false}
use native.Mathlib.Omega.{arith}
use native.Mathlib.Decide.{dec_lt}
use native.Mathlib.Nat.{mul-le-mul_left, le-pred_of_lt}
use borrow.Author.Tests.{lt-ltb, le-ltb}
use Rattle.esrgb.specs.Depths.{offset, step, scale}
use Rattle.esrgb.specs.Codes.{from_srgb, to_srgb}
use Rattle.esrgb.specs.HowApplied.{gamut_of, above_lowest, outside}
use Rattle.esrgb.proofs.Scale.{Scale}

module _ (n x : ℕ) where
  held : offset n ≤ x → x ≤ offset n + scale n → (to_srgb n x).clipped ≡ false
  unfolding to_srgb
  held low high = rw (le-ltb x (offset n) low) (le-ltb (offset n + scale n) x high)

  pub outside-clipped : Scale n → x < 65536 → outside (gamut_of n) x ≡ (to_srgb n x).clipped
  unfolding to_srgb
  outside-clipped s fits =
      elim (dec_lt x (offset n)) [
        | yes below ↦ rw (lt-ltb x (offset n) below) (lt-ltb (scale n) (above_lowest (gamut_of n) x) (omega (arith, s)))
        | no not-below ↦
            elim (dec_lt (offset n + scale n) x) [
              | yes above ↦ rw (le-ltb x (offset n) (omega arith), lt-ltb (offset n + scale n) x above) (lt-ltb (scale n) (above_lowest (gamut_of n) x) (omega (arith, s)))
              | no not_above ↦ rw (held (omega arith) (omega arith)) (le-ltb (scale n) (above_lowest (gamut_of n) x) (omega (arith, s)))
            ]
      ]

pub srgb_held : (n a : ℕ) → a < 256 → (to_srgb n (from_srgb n a)).clipped ≡ false
unfolding from_srgb
srgb_held n a h = held n _ (omega arith) (omega (arith, mul-le-mul_left (step n) (le-pred_of_lt h)))
