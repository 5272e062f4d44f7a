-- Every number of a depth is a multiple of its step: so a fact of all depths is shown once, over the step.
-- Assumes nothing.
use Prim.Native.Nat.{ℕ, ◌*◌, ◌^◌, ◌≤◌}
use mathlib.Core.Path.{◌≡◌, refl}
use mathlib.Core.Bool.{true}
use native.Mathlib.Omega.{arith}
use native.Mathlib.Decide.{ℕ_discrete}
use lib.Pow.{pow_mono}
use borrow.Author.Tests.{eqb-true, ne_eqb}
use Rattle.esrgb.specs.declared.Depth.{Depth}
use Rattle.esrgb.specs.declared.Depth.TheVariants.{Ten, Twelve, Sixteen}
use Rattle.esrgb.specs.Depths.{offered, bits, middle, offset, step}

pub record Scale (n : ℕ) : Type 0 where
  pub whole : 2 ^ n ≡ 512 * step n
  pub half : middle n ≡ 256 * step n
  pub zero_at : offset n ≡ 192 * step n
  pub some : 2 ≤ step n
  pub fits : step n ≤ 128
  pub half_step : ℕ
  pub even : step n ≡ 2 * half_step
  pub least : 10 ≤ n
  pub most : n ≤ 16

pub scale : (d : Depth) → Scale (bits d)
scale Ten = record { whole = refl; half = refl; zero_at = refl; some = omega arith; fits = omega arith; half_step = 1; even = refl; least = omega arith; most = omega arith }
scale Twelve = record { whole = refl; half = refl; zero_at = refl; some = omega arith; fits = omega arith; half_step = 4; even = refl; least = omega arith; most = omega arith }
scale Sixteen = record { whole = refl; half = refl; zero_at = refl; some = omega arith; fits = omega arith; half_step = 64; even = refl; least = omega arith; most = omega arith }

-- The bits of a depth are offered, and an offered number of bits is that of a depth.
pub offered-bits : (d : Depth) → offered (bits d) ≡ true
offered-bits Ten = refl
offered-bits Twelve = refl
offered-bits Sixteen = refl

-- So what holds at every depth holds at every offered number of bits.
pub at_depths : (P : ℕ → Type 0) → ((d : Depth) → P (bits d)) → (n : ℕ) → offered n ≡ true → P n
at_depths P each n h = elim (ℕ_discrete n 10) [
  | yes e ↦ rw e (each Ten)
  | no ten ↦ elim (ℕ_discrete n 12) [
    | yes e ↦ rw e (each Twelve)
    | no twelve ↦
        let e : n ≡ 16 = eqb-true n 16 (simp (ne_eqb n 10 ten, ne_eqb n 12 twelve) at h) in
        rw e (each Sixteen)
  ]
]

pub scale_of : (n : ℕ) → offered n ≡ true → Scale n
scale_of = at_depths Scale scale

-- From 12 bits on, one code is less than half a step.
pub deep_step : (n : ℕ) → 12 ≤ n → 8 ≤ step n
deep_step n h = pow_mono {i = 3} (omega arith)
