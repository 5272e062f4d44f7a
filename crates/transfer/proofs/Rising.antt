-- Of two codes of one depth the higher has more light (rule 6.11). Every code is a 16-bit code of the same light, so it is shown there: of
-- levels first, and then of codes, with their signs.
-- Assumes nothing.
use Prim.Native.Nat.{ℕ, zero, suc, ◌+◌, ◌-◌, ◌*◌, ◌/◌, ◌%◌, ◌≤◌, ◌<◌}
use mathlib.Core.Path.{◌≡◌, sym, ap, subst, ◌∙◌}
use mathlib.Core.Bool.{true}
use native.Mathlib.Omega.{arith}
use native.Mathlib.Nat.{lt_trans, mul-suc, mul-lt-mul_of_pos_left}
use native.Mathlib.Numerals.{add-one}
use native.Mathlib.Decide.{dec_le}
use borrow.Author.Tests.{lt-ltb, le-ltb}
use lib.Dec.{T}
use lib.IntN.{ℤ, pos, neg_ℤ}
use lib.Signed.{lt_z, ◌<ℤ◌, lt_z_yes}
use Rattle.esrgb.specs.declared.Depth.{Depth}
use Rattle.esrgb.specs.Depths.{bits, greatest, offset, step, scale}
use Rattle.esrgb.proofs.Scale.{at_depths, scale as depth-scale}
use Rattle.transfer.specs.Light.{light_of_level, per_level, light_between, light_of_code}
use Rattle.transfer.specs.Steady.{Rises, Rising}
use Rattle.transfer.specs.HowTabled.{levels}
use Rattle.transfer.proofs.Between.{on_level, between_is}
use Rattle.transfer.proofs.Scaling.{light_from, up, same_light, up_fits}
use Rattle.transfer.proofs.Steady.{apart}

-- What rises from each number to the next rises from any to any greater one, up to a bound.
rises : (f : ℕ → ℕ) (b : ℕ) → ((v : ℕ) → suc v < b → f v < f (suc v)) → (v w : ℕ) → v < w → w < b → f v < f w
rises f b next v zero h l = absurd (omega arith)
rises f b next v (suc w) h l =
    elim (dec_le w v) [
      | yes e ↦
          let same : v ≡ w = omega arith in
          rw same (next w l)
      | no e ↦ lt_trans (rises f b next v w (omega arith) (omega arith)) (next w l)
    ]

-- ---- 16-bit levels: along a line, and from its last level to the next line
module _ (v : ℕ) (h : suc v < levels 16) where
  abbrev below : ℕ
  below = light_of_level (scale 12) (v / per_level)

  abbrev above : ℕ
  above = light_of_level (scale 12) (v / per_level + 1)

  far : below + per_level ≤ above
  far = rw (add-one (v / per_level)) (apart (v / per_level) (omega arith))

  next_rises : light_between v < light_between (suc v)
  next_rises =
      elim (dec_le (v % per_level) (per_level - 2)) [
        | yes l ↦
            let same : suc v / per_level ≡ v / per_level = omega arith in
            let next : suc v % per_level ≡ suc (v % per_level) = omega arith in
            rw (between_is v (omega arith), between_is (suc v) h, same, next) (omega (arith, far, mul-suc (above - below) (v % per_level)))
        | no l ↦
            let last : v % per_level ≡ per_level - 1 = omega arith in
            let whole : suc v ≡ per_level * (v / per_level + 1) = omega arith in
            let ends : light_between (suc v) ≡ above = ap light_between whole ∙ on_level (v / per_level + 1) in
            rw (between_is v (omega arith), ends, last) (omega (arith, far))
      ]

light_rises : (v w : ℕ) → v < w → w < levels 16 → light_between v < light_between w
light_rises = rises light_between (levels 16) next_rises

-- ---- codes: any light of levels that rises, with the signs of levels, rises from the least code to the greatest
passed : {a b : ℤ} → lt_z a b ≡ true → a <ℤ b
passed e = lt_z_yes (subst T (sym e) tt)

below_black : (a b : ℕ) → zero < a → neg_ℤ (pos a) <ℤ pos b
below_black zero b h = absurd (omega arith)
below_black (suc a) b h = lt_z_yes tt

both_below : (a b : ℕ) → b < a → neg_ℤ (pos a) <ℤ neg_ℤ (pos b)
both_below zero b h = absurd (omega arith)
both_below (suc a) zero h = lt_z_yes tt
both_below (suc a) (suc b) h = passed (lt-ltb b a (omega arith))

module _ (light : ℕ → ℕ) (b : ℕ) (up : (v w : ℕ) → v < w → w < b → light v < light w) where
  codes_rise : (o top : ℕ) → o < b → top < o + b → Rises (light_from light o) top
  codes_rise o top some most low high h l =
      elim (dec_le o low) [
        | yes over ↦
            rw (le-ltb low o over, le-ltb high o (omega arith)) (passed (lt-ltb _ _ (up _ _ (omega arith) (omega arith))))
        | no under ↦ elim (dec_le o high) [
          | yes over ↦
              let size = (low - o) + (o - low) in
              rw (lt-ltb low o (omega arith), le-ltb high o over)
              (below_black (light size) _ (omega (arith, up zero size (omega arith) (omega arith))))
          | no both ↦
              rw (lt-ltb low o (omega arith), lt-ltb high o (omega arith)) (both_below _ _ (up _ _ (omega arith) (omega arith)))
        ]
      ]

-- ---- 16 bits, and with it every depth
more_at_sixteen : Rises (light_of_code 16) (greatest 16)
unfolding light_of_code
more_at_sixteen = codes_rise light_between (levels 16) light_rises (offset 16) (greatest 16) (omega arith) (omega arith)

more_light : (d : Depth) → Rises (light_of_code (bits d)) (greatest (bits d))
more_light d low high h l =
    let n = bits d in
    let m = step 16 / step n in
    let s = depth-scale d in
    rw (← same_light n m low s (up d), ← same_light n m high s (up d))
    (more_at_sixteen (m * low) (m * high) (mul-lt-mul_of_pos_left h (up d).some) (omega (arith, up_fits n m s (up d) high l)))

pub rising : Rising
rising = record { more = at_depths (λ n. Rises (light_of_code n) (greatest n)) more_light }
