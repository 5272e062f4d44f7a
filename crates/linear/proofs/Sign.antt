-- The machine's signed numbers of 32 bits, and the test of their sign.
-- Assumes nothing.
use Prim.Native.Nat.{ℕ}
use mathlib.Core.Path.{◌≡◌}
use mathlib.Core.Bool.{Bool, true}
use native.Mathlib.Omega.{arith}
use borrow.Author.Tests.{ltb-true}
use lib.IntN.{ℤ, pos}
use lib.Signed.{lt_z}
use mir.Syntax.{w32, w64}
use mir.Val.{SFits, to_z, of_z}
use mir.ValLaws.{to_z-of_z}

pub not_negative : (k : ℕ) → lt_z (pos k) (pos 0) ≡ true → ⊥
not_negative k e = omega (arith, ltb-true k 0 e)

module _ (z : ℤ) (f : SFits w32 z) where
  pub read : to_z w32 (of_z w32 z) ≡ z
  read = to_z-of_z w32 z f

  pub read_fits : SFits w64 (to_z w32 (of_z w32 z))
  read_fits = rw read (record { sfits = omega arith })

  -- A test of the bits is one of the number.
  pub test_is : (b : Bool) → lt_z (to_z w32 (of_z w32 z)) (pos 0) ≡ b → lt_z z (pos 0) ≡ b
  test_is b e = rw read at e
