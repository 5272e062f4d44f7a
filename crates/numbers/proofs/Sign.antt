-- Signed numbers: minus a number, as the machine's numbers of any width have it, and how great a sum is.
-- Assumes nothing.
use Prim.Native.Nat.{ℕ, zero, suc, ◌+◌, ◌-◌, ◌≤◌, ◌<◌, ◌^◌}
use mathlib.Core.Path.{◌≡◌, ap, ◌∙◌}
use mathlib.Core.Bool.{Bool, true, false, cond}
use native.Mathlib.Omega.{arith}
use lib.Dec.{ltb}
use lib.IntN.{ℤ, pos, negsuc, neg_ℤ, nat_abs, ◌+ℤ◌, ◌-ℤ◌, +ℤ_idl}
use lib.Signed.{mag}
use mir.Syntax.{Width}
use mir.Val.{SFits, hbits, to_z, of_z}
use mir.ValLaws.{to_z-of_z, to_z_pos}

neg_fits : (w : Width) (n : ℕ) → n < 2 ^ hbits w → SFits w (neg_ℤ (pos n))
neg_fits w zero h = record { sfits = h }
neg_fits w (suc k) h = record { sfits = omega arith }

module _ (w : Width) (n : ℕ) (h : n < 2 ^ hbits w) where
  opposite : pos 0 -ℤ to_z w n ≡ neg_ℤ (pos n)
  opposite = ap (λ (z : ℤ). pos 0 -ℤ z) (to_z_pos w n h) ∙ +ℤ_idl (neg_ℤ (pos n))

  pub opposite_fits : SFits w (pos 0 -ℤ to_z w n)
  opposite_fits = rw opposite (neg_fits w n h)

  pub opposite_is : to_z w (of_z w (pos 0 -ℤ to_z w n)) ≡ neg_ℤ (pos n)
  opposite_is = to_z-of_z w _ opposite_fits ∙ opposite

-- ---- a sum
difference_size : (a b : ℕ) (t : Bool) → mag (cond t (negsuc (b - suc a)) (pos (a - b))) ≤ a + b
difference_size a b true = omega arith
difference_size a b false = omega arith

pub sum-size : (x y : ℤ) → mag (x +ℤ y) ≤ nat_abs x + nat_abs y
sum-size (pos a) (pos b) = omega arith
sum-size (pos a) (negsuc b) = difference_size a (suc b) (ltb a (suc b))
sum-size (negsuc a) (pos b) = omega (arith, difference_size b (suc a) (ltb b (suc a)))
sum-size (negsuc a) (negsuc b) = omega arith
