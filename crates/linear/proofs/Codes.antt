-- A level in bounds, with the sign of the light, is a code.
-- Assumes nothing.
use Prim.Native.Nat.{ℕ, ◌+◌, ◌-◌, ◌*◌, min}
use mathlib.Core.Path.{◌≡◌, sym, ap}
use mathlib.Core.Bool.{true, false, false≢true}
use native.Mathlib.Omega.{arith}
use lib.IntN.{ℤ, pos, negsuc, nat_abs}
use lib.Signed.{lt_z}
use Rattle.esrgb.specs.Depths.{step, scale}
use Rattle.esrgb.proofs.Scale.{Scale}
use Rattle.transfer.specs.Level.{level_of_light, code_of_light}
use Rattle.transfer.specs.HowTabled.{levels}
use Rattle.linear.proofs.Sign.{not_negative}

module _ (n k : ℕ) (s : Scale n) (e : k ≡ step n) (q level : ℕ) (l : level ≡ min (level_of_light (scale n) q) (levels n - 1)) where
  pub code_below : (light : ℤ) → q ≡ nat_abs light → lt_z light (pos 0) ≡ true → 192 * k - level ≡ code_of_light n light
  unfolding code_of_light
  code_below (pos j) a t = absurd (not_negative j t)
  code_below (negsuc j) a t = omega (arith, ap (level_of_light (scale n)) a)

  pub code-above : (light : ℤ) → q ≡ nat_abs light → lt_z light (pos 0) ≡ false → 192 * k + level ≡ code_of_light n light
  unfolding code_of_light
  code-above (pos j) a t = omega (arith, ap (level_of_light (scale n)) a)
  code-above (negsuc j) a t = absurd (false≢true (sym t))
