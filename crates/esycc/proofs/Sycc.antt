-- A chroma of sYCC, which is clipped before it is encoded, is the code that is not, but for 0, which is never reached.
-- Assumes nothing.
use mathlib.Core.Path.{◌≡◌, ap}
use Prim.Native.Nat.{ℕ, ◌+◌, ◌-◌, ◌*◌, ◌≤◌, ◌<◌, min, max}
use native.Mathlib.Omega.{arith}
use native.Mathlib.Decide.{dec_le}
use native.Mathlib.Nat.{div-lt_iff_lt-mul, le-div_iff_mul-le}
use Rattle.numbers.specs.Rounding.{nearest, clipped_to}
use Rattle.esycc.specs.Esycc.{code}
use Rattle.esycc.specs.Sycc.{half_more, chroma_byte}

-- The nearest of x over 2 half, where x is at most a half, at least a half, or at least 511 of them.
module _ (half x : ℕ) (some : 1 ≤ half) where
  at_most_one : x ≤ half → nearest x (2 * half) < 2
  unfolding nearest
  at_most_one h = (div-lt_iff_lt-mul {k = 2 * (2 * half)} (omega arith)).1 (omega arith)

  at_least_one : half ≤ x → 1 ≤ nearest x (2 * half)
  unfolding nearest
  at_least_one h = (le-div_iff_mul-le {k = 2 * (2 * half)} (omega arith)).1 (omega arith)

  above_bytes : 511 * half ≤ x → 256 ≤ nearest x (2 * half)
  unfolding nearest
  above_bytes h = (le-div_iff_mul-le {k = 2 * (2 * half)} (omega arith)).1 (omega arith)

pub clipped-first : (half up down : ℕ) → 1 ≤ half → max 1 (code 255 128 255 up down (2 * half)) ≡ chroma_byte up down half
unfolding code clipped_to chroma_byte half_more
clipped-first half up down some =
    let x : ℕ = 255 * up + 128 * (2 * half) - 255 * down in
    let y : ℕ = 255 * min (2 * half) (up + half - down) + half in
    elim (dec_le (up + half) down) [
      | yes least ↦
          let e : y ≡ half = omega arith in
          omega (arith, at_most_one half x some (omega arith), at_most_one half y some (omega arith), at_least_one half y some (omega arith))
      | no more ↦
          elim (dec_le (down + half) up) [
            | yes most ↦ omega (arith, above_bytes half x some (omega arith), above_bytes half y some (omega arith))
            | no less ↦
                let e : x ≡ y = omega arith in
                omega (arith, ap (λ (z : ℕ). nearest z (2 * half)) e, at_least_one half x some (omega arith))
          ]
    ]
