-- Light at 16 bits (rules 6.8 and 6.9), of levels: on the line it rises, 32 bits hold it, and it is near the exact light.
-- Assumes nothing.
use Prim.Native.Nat.{ℕ, zero, suc, ◌+◌, ◌-◌, ◌*◌, ◌^◌, ◌/◌, ◌%◌, ◌≤◌, ◌<◌}
use mathlib.Core.Path.{◌≡◌, refl, ap, ◌∙◌}
use mathlib.Core.Bool.{Bool, true, and-eq-true_iff, ◌&&◌}
use native.Mathlib.Omega.{arith}
use native.Mathlib.Nat.{add-mul, mul-sub, mul-le-mul_left}
use native.Mathlib.Numerals.{add-one}
use native.Mathlib.Decide.{dec_le}
use borrow.Author.Tests.{leb-true, ltb-true}
use lib.Dec.{leb, ltb}
use Rattle.numbers.specs.Rounding.{nearest}
use Rattle.esrgb.specs.Depths.{scale}
use Rattle.transfer.specs.Light.{reaches_light, light_of_level, per_level, between, light_between}
use Rattle.transfer.specs.Exact.{at_least, at_most, Within, most_apart}
use Rattle.transfer.specs.HowTabled.{levels}
use Rattle.transfer.proofs.Light.{is_light}
use Rattle.transfer.proofs.Neighbours.{Neighbours, neighbours}

-- A level that is a 12-bit level times 16 has that level's light.
pub on_level : (v : ℕ) → light_between (per_level * v) ≡ light_of_level (scale 12) v
unfolding light_between nearest
on_level v =
    let k : per_level * v / per_level ≡ v = omega arith in
    let j : per_level * v % per_level ≡ 0 = omega arith in
    rw (k, j) (omega arith)

-- ---- the computed test, of the lights of a 12-bit level and of the next
abbrev is_near : ℕ → ℕ → ℕ → ℕ → Bool
is_near m S v q = at_least S v (q - m) && at_most S v (q + m)

-- On the line from x to y, the lights of the first n 16-bit levels from 12-bit level v on are near.
abbrev line_near : ℕ → ℕ → ℕ → ℕ → Bool
line_near zero v x y = true
line_near (suc j) v x y = is_near most_apart (scale 16) (per_level * v + j) (between x y j) && line_near j v x y

-- No light of a 12-bit level is as great.
abbrev pub light_end : ℕ
light_end = 2 ^ 21

abbrev sound_line : ℕ → ℕ → ℕ → Bool
sound_line v x y = (leb x y && ltb y light_end) && line_near per_level v x y

all_lines : (v : ℕ) → v < levels 12 → Neighbours sound_line v
unfolding nearest reaches_light is_light at_least at_most
all_lines = neighbours sound_line refl

record Line (v x y : ℕ) : Type 0 where
  rises : x ≤ y
  ends : y < light_end
  near : line_near per_level v x y ≡ true

line-says : (v x y : ℕ) → sound_line v x y ≡ true → Line v x y
line-says v x y t =
    let p = (and-eq-true_iff (leb x y && ltb y light_end) (line_near per_level v x y)).0 t in
    let s = (and-eq-true_iff (leb x y) (ltb y light_end)).0 p.0 in
    record { rises = leb-true _ _ s.0; ends = ltb-true _ _ s.1; near = p.1 }

-- The line that a 16-bit level lies on.
line_of : (v : ℕ) → v < levels 16 → Line (v / per_level) (light_of_level (scale 12) (v / per_level)) (light_of_level (scale 12) (v / per_level + 1))
line_of v h =
    let k = v / per_level in
    rw (add-one k) (line-says k (light_of_level (scale 12) k) (light_of_level (scale 12) (suc k)) (all_lines k (omega arith)))

-- ---- near the exact light
line_at : (n v x y j : ℕ) → line_near n v x y ≡ true → j < n → is_near most_apart (scale 16) (per_level * v + j) (between x y j) ≡ true
line_at zero v x y j t h = absurd (omega arith)
line_at (suc n) v x y j t h =
    let p = (and-eq-true_iff (is_near most_apart (scale 16) (per_level * v + n) (between x y n)) (line_near n v x y)).0 t in
    elim (dec_le n j) [
      | yes l ↦
          let e : j ≡ n = omega arith in
          rw e p.0
      | no l ↦ line_at n v x y j p.1 (omega arith)
    ]

within : (m S v q : ℕ) → is_near m S v q ≡ true → Within m S v q
within m S v q t =
    let p = (and-eq-true_iff (at_least S v (q - m)) (at_most S v (q + m))).0 t in
    record { low = p.0; high = p.1 }

pub level_within : (v : ℕ) → v < levels 16 → Within most_apart (scale 16) v (light_between v)
unfolding light_between
level_within v h =
    let e : per_level * (v / per_level) + v % per_level ≡ v = omega arith in
    within most_apart (scale 16) v _ (rw e at (line_at per_level (v / per_level) _ _ (v % per_level) (line_of v h).near (omega arith)))

-- ---- as the code computes it: from x up, by the share of the rise
line_up : (x d j : ℕ) → j ≤ per_level → between x (x + d) j ≡ x + (d * j + per_level / 2) / per_level
unfolding nearest
line_up x d j h = omega (arith, add-mul x d j, mul-sub x per_level j, mul-le-mul_left x h)

-- The lights of the two 12-bit levels that a 16-bit level lies between.
module _ (v : ℕ) (h : v < levels 16) where
  abbrev below : ℕ
  below = light_of_level (scale 12) (v / per_level)

  abbrev above : ℕ
  above = light_of_level (scale 12) (v / per_level + 1)

  pub lights_rise : below ≤ above
  lights_rise = (line_of v h).rises

  pub between_is : light_between v ≡ below + ((above - below) * (v % per_level) + per_level / 2) / per_level
  unfolding light_between
  between_is =
      let e : above ≡ below + (above - below) = omega (arith, lights_rise) in
      ap (λ (z : ℕ). between below z (v % per_level)) e ∙ line_up below (above - below) (v % per_level) (omega arith)

  pub share_fits : below + (above - below) * (v % per_level) < per_level * light_end
  share_fits =
      let part : v % per_level ≤ per_level - 1 = omega arith in
      omega (arith, (line_of v h).rises, (line_of v h).ends, mul-le-mul_left (above - below) part)

  pub between-fits : light_between v < light_end
  between-fits =
      let part : v % per_level ≤ per_level - 1 = omega arith in
      omega (arith, between_is, (line_of v h).rises, (line_of v h).ends, mul-le-mul_left (above - below) part)
