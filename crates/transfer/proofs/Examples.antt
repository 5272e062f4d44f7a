-- The examples of light (rule 10.2), as facts about the definitions. A level's code is the offset more.
-- Assumes nothing.
use Prim.Native.Nat.{ℕ, suc, ◌+◌, ◌-◌, min}
use mathlib.Core.Path.{◌≡◌, refl, ap}
use mathlib.Core.Bool.{true}
use native.Mathlib.Omega.{arith}
use lib.IntN.{pos, negsuc, neg_ℤ}
use Rattle.numbers.specs.Rounding.{nearest}
use Rattle.esrgb.specs.Depths.{offset, scale}
use Rattle.transfer.specs.Light.{reaches_light, light_between, light_of_code}
use Rattle.transfer.specs.Level.{reaches_level, level_of_light, code_of_light}
use Rattle.transfer.proofs.Light.{is_light, light_is}
use Rattle.transfer.proofs.Level.{is_from, is_below, level_from, level_below}

-- Code to light; negsuc 37 is −38.
pub light_examples_lem :
    (light_of_code 12 (offset 12 + 1) ≡ pos 38)
    × (light_of_code 12 (offset 12 - 1) ≡ negsuc 37)
    × (light_of_code 12 (offset 12 + 82) ≡ pos 3111)
    × (light_of_code 12 (offset 12 + 2040) ≡ pos 1000000)
    × (light_of_code 10 (offset 10 + 20) ≡ pos 3035)
unfolding light_of_code nearest reaches_light is_light
light_examples_lem = (
  ap pos (light_is (scale 12) 1 38 refl),
  ap (λ (m : ℕ). neg_ℤ (pos m)) (light_is (scale 12) 1 38 refl),
  ap pos (light_is (scale 12) 82 3111 refl),
  ap pos (light_is (scale 12) 2040 1000000 refl),
  ap pos (light_is (scale 10) 20 3035 refl),
)

-- At 16 bits: on a level of 12 bits, halfway, a quarter of the way, which is a tie, and at both ends.
pub sixteen_examples :
    (light_of_code 16 (offset 16 + 16) ≡ pos 38)
    × (light_of_code 16 (offset 16 + 8) ≡ pos 19)
    × (light_of_code 16 (offset 16 + 4) ≡ pos 10)
    × (light_of_code 16 (offset 16 - 4) ≡ negsuc 9)
    × (light_of_code 16 (offset 16 + 40959) ≡ pos 1680904)
    × (light_of_code 16 (offset 16 - 24576) ≡ negsuc 527114)
unfolding light_of_code light_between nearest reaches_light is_light
sixteen_examples =
    let light0 = light_is (scale 12) 0 0 refl in
    let light1 = light_is (scale 12) 1 38 refl in (
      rw (light1, light_is (scale 12) 2 76 refl) refl,
      rw (light0, light1) refl,
      rw (light0, light1) refl,
      rw (light0, light1) refl,
      rw (light_is (scale 12) 2559 1679489 refl, light_is (scale 12) 2560 1680998 refl) refl,
      rw (light_is (scale 12) 1536 527115 refl, light_is (scale 12) 1537 527883 refl) refl,
    )

level_is : (S q w : ℕ) → is_from S q w ≡ true → is_below S q (suc w) ≡ true → level_of_light S q ≡ w
level_is S q w from below = omega (arith, level_from S q w from, level_below S q (suc w) below)

-- Light to code, on either side of the bend.
pub code-examples : (code_of_light 12 (pos 3130) ≡ 1618) × (code_of_light 12 (pos 3131) ≡ 1619)
unfolding code_of_light nearest reaches_level is_from is_below
code-examples = (
  ap (λ (w : ℕ). min 4095 (offset 12 + w)) (level_is (scale 12) 3130 82 refl refl),
  ap (λ (w : ℕ). min 4095 (offset 12 + w)) (level_is (scale 12) 3131 83 refl refl),
)

-- Black's light, which is 0, moved by as much as it keeps its code, and by one millionth more; negsuc 17 is −18.
pub moved-examples :
    (code_of_light 12 (pos 18) ≡ 1536)
    × (code_of_light 12 (pos 19) ≡ 1537)
    × (code_of_light 12 (negsuc 17) ≡ 1536)
    × (code_of_light 12 (negsuc 18) ≡ 1535)
    × (code_of_light 10 (pos 75) ≡ 384)
    × (code_of_light 10 (pos 76) ≡ 385)
unfolding code_of_light nearest is_from is_below
moved-examples = (
  ap (λ (w : ℕ). min 4095 (offset 12 + w)) (level_is (scale 12) 18 0 refl refl),
  ap (λ (w : ℕ). min 4095 (offset 12 + w)) (level_is (scale 12) 19 1 refl refl),
  ap (λ (w : ℕ). offset 12 - w) (level_is (scale 12) 18 0 refl refl),
  ap (λ (w : ℕ). offset 12 - w) (level_is (scale 12) 19 1 refl refl),
  ap (λ (w : ℕ). min 1023 (offset 10 + w)) (level_is (scale 10) 75 0 refl refl),
  ap (λ (w : ℕ). min 1023 (offset 10 + w)) (level_is (scale 10) 76 1 refl refl),
)
