-- The doubles that the code multiplies with and adds, and what an accepted channel's product and sum can be.
-- Assumes nothing.
use Prim.Native.Nat.{ℕ, ◌^◌, ◌≤◌, ◌<◌}
use mathlib.Core.Path.{◌≡◌, refl, ap, ◌∙◌}
use native.Mathlib.Omega.{arith}
use lib.Dec.{T}
use lib.IntN.{ℤ, pos, nat_abs}
use lib.Signed.{non_neg}
use lib.Ieee.{Float, binary64, of_bits, of_int}
use mir.Syntax.{w16, w32, w64}
use mir.Val.{Fits, SFits, to_z, of_z}
use mir.ValLaws.{to_z-of_z}
use Rattle.doubles.specs.Doubles.{nearest_whole}
use Rattle.doubles.proofs.Whole.{whole-size, whole_natural}
use Rattle.esrgb.specs.Depths.{offset, scale}

pub is-scale : of_bits binary64 0x409f_e000_0000_0000 ≡ of_int binary64 (pos (scale 12))
unfolding of_bits of_int
is-scale = refl

pub is-offset : of_bits binary64 0x4098_0000_0000_0000 ≡ of_int binary64 (pos (offset 12))
unfolding of_bits of_int
is-offset = refl

pub is_million : of_bits binary64 0x412e_8480_0000_0000 ≡ of_int binary64 (pos (10 ^ 6))
unfolding of_bits of_int
is_million = refl

-- ---- the nearest whole number z, of 64 bits, in fewer bits
module _ (z : ℤ) (f : SFits w64 z) (x : Float) where
  -- Clipped to 0..high, in 16 bits without a sign.
  module _ (high : ℕ) (small : high < 2 ^ 16) (is : z ≡ nearest_whole 0 high x) where
    natural_fits : T (non_neg z) × Fits w16 (nat_abs z)
    natural_fits =
        let most : nat_abs (nearest_whole 0 high x) ≤ high = (whole_natural high x).1 in
        rw is ((whole_natural high x).0, record { fits = omega arith })

    pub natural_cast : T (non_neg (to_z w64 (of_z w64 z))) × Fits w16 (nat_abs (to_z w64 (of_z w64 z)))
    natural_cast = rw (to_z-of_z w64 z f) natural_fits

    pub natural_is : nat_abs (to_z w64 (of_z w64 z)) ≡ nat_abs (nearest_whole 0 high x)
    natural_is = ap nat_abs (to_z-of_z w64 z f ∙ is)

  -- Clipped to −limit..limit, in 32 bits with one.
  module _ (limit : ℕ) (small : limit < 2 ^ 31) (is : z ≡ nearest_whole limit limit x) where
    signed-fits : SFits w32 z
    signed-fits = rw is (record { sfits = whole-size limit limit (2 ^ 31) small small x })

    pub signed_cast : SFits w32 (to_z w64 (of_z w64 z))
    signed_cast = rw (to_z-of_z w64 z f) signed-fits

    pub signed_is : to_z w32 (of_z w32 (to_z w64 (of_z w64 z))) ≡ nearest_whole limit limit x
    signed_is = to_z-of_z w32 _ signed_cast ∙ to_z-of_z w64 z f ∙ is
