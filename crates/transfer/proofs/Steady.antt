-- Light that was moved comes back as the code it was taken from (rule 6.10): of levels by a test that is computed over all of them, and then
-- of codes, with their signs.
-- Assumes nothing.
use Prim.Native.Nat.{ℕ, zero, suc, ◌+◌, ◌-◌, ◌*◌, ◌/◌, ◌%◌, ◌≤◌, ◌<◌}
use mathlib.Core.Path.{◌≡◌, refl, sym, ◌∙◌}
use mathlib.Core.Bool.{Bool, true, false, cond, and-eq-true_iff, ◌&&◌}
use native.Mathlib.Omega.{arith}
use native.Mathlib.Decide.{dec_le, ℕ_discrete}
use borrow.Author.Tests.{leb-true, lt-ltb, le-ltb, ltb-true, ltb-false, eqb-true, ne_eqb}
use lib.Dec.{eqb, leb, ltb}
use lib.IntN.{ℤ, pos, negsuc, neg_ℤ, nat_abs, ◌+ℤ◌}
use lib.Signed.{mag}
use Rattle.numbers.specs.Rounding.{nearest}
use Rattle.numbers.proofs.Sign.{sum-size}
use Rattle.esrgb.specs.declared.Depth.{Depth}
use Rattle.esrgb.specs.declared.Depth.TheVariants.{Ten, Twelve}
use Rattle.esrgb.specs.Depths.{bits, greatest, offset, step, scale}
use Rattle.esrgb.proofs.Scale.{Scale, scale as depth-scale}
use Rattle.transfer.specs.Light.{reaches_light, greatest_light, light_of_level, per_level, light_at, level_size, light_of_code}
use Rattle.transfer.specs.Level.{offers_codes, reaches_level, level_of_light, code_of_light}
use Rattle.transfer.specs.Steady.{most_moved, SteadyAt, Steady}
use Rattle.transfer.specs.HowTabled.{levels}
use Rattle.transfer.proofs.Light.{is_light}
use Rattle.transfer.proofs.Neighbours.{Neighbours, neighbours}
use Rattle.transfer.proofs.Level.{is_from, is_below, level_from, level_below, meets, level_rises}
use Rattle.transfer.proofs.Between.{light_end}
use Rattle.transfer.proofs.Scaling.{light_scaled}
use Rattle.transfer.proofs.Sixteen.{light_small}

-- ---- levels: v is the level of all lights from q − m to q + m, by tests of the two at the ends
abbrev keeps : ℕ → ℕ → ℕ → ℕ → Bool
keeps S m v q = is_from S (q - m) v && is_below S (q + m) (suc v)

abbrev Keeps : ℕ → ℕ → ℕ → ℕ → Type 0
Keeps S m v q = (p : ℕ) → q ≤ p + m → p ≤ q + m → level_of_light S p ≡ v

keep : (S m v q : ℕ) → meets S ≡ true → keeps S m v q ≡ true → Keeps S m v q
keep S m v q bend t p low high =
    let ends = (and-eq-true_iff (is_from S (q - m) v) (is_below S (q + m) (suc v))).0 t in
    omega (
      arith,
      level_from S (q - m) v ends.0,
      level_below S (q + m) (suc v) ends.1,
      level_rises S bend (q - m) p (omega arith),
      level_rises S bend p (q + m) high,
    )

-- How many levels of 12 bits make one of 10.
abbrev per_ten : ℕ
per_ten = step 12 / step 10

-- The computed test, of the lights of a 12-bit level and of the next. They are so far apart that 16-bit levels between them rise by one
-- millionth or more each; and the level keeps its light, at 12 bits, and at 10 if it is a level there.
abbrev keeps_at_ten : ℕ → ℕ → Bool
keeps_at_ten v x = cond (eqb (v % per_ten) 0) (keeps (scale 10) (most_moved 10) (v / per_ten) x) true

abbrev is_steady : ℕ → ℕ → ℕ → Bool
is_steady v x y = leb (x + per_level) y && (keeps (scale 12) (most_moved 12) v x && keeps_at_ten v x)

all_steady : (v : ℕ) → v < levels 12 → Neighbours is_steady v
unfolding nearest reaches_light is_light reaches_level is_from is_below
all_steady = neighbours is_steady refl

record SteadyLevel (v x y : ℕ) : Type 0 where
  apart : x + per_level ≤ y
  at_twelve : keeps (scale 12) (most_moved 12) v x ≡ true
  at_ten : keeps_at_ten v x ≡ true

steady_level : (v : ℕ) → v < levels 12 → SteadyLevel v (light_of_level (scale 12) v) (light_of_level (scale 12) (suc v))
steady_level v h =
    let x = light_of_level (scale 12) v in
    let y = light_of_level (scale 12) (suc v) in
    let all = (and-eq-true_iff (leb (x + per_level) y) (keeps (scale 12) (most_moved 12) v x && keeps_at_ten v x)).0 (all_steady v h) in
    let both = (and-eq-true_iff (keeps (scale 12) (most_moved 12) v x) (keeps_at_ten v x)).0 all.1 in
    record { apart = leb-true _ _ all.0; at_twelve = both.0; at_ten = both.1 }

pub apart : (v : ℕ) → v < levels 12 → light_of_level (scale 12) v + per_level ≤ light_of_level (scale 12) (suc v)
apart v h = (steady_level v h).apart

twelve_keeps : (v : ℕ) → v < levels 12 → Keeps (scale 12) (most_moved 12) v (light_of_level (scale 12) v)
unfolding nearest reaches_level meets
twelve_keeps v h = keep (scale 12) (most_moved 12) v _ refl (steady_level v h).at_twelve

ten_keeps : (v : ℕ) → v < levels 10 → Keeps (scale 10) (most_moved 10) v (light_of_level (scale 10) v)
unfolding nearest reaches_level meets
ten_keeps v h =
    let whole : per_ten * v % per_ten ≡ 0 = omega arith in
    let level : per_ten * v / per_ten ≡ v = omega arith in
    keep (scale 10) (most_moved 10) v _ refl
    (rw (whole, level, light_scaled per_ten (omega arith) (scale 10) v) at (steady_level (per_ten * v) (omega arith)).at_ten)

-- ---- codes. Where a move goes across 0, the level is 0
module _ (n m v q : ℕ) (kept : Keeps (scale n) m v q) (black : level_of_light (scale n) 0 ≡ 0) where
  none : q ≤ m → v ≡ 0
  none h = sym (kept 0 (omega arith) (omega arith)) ∙ black

  module _ (code : ℕ) (e : code ≡ offset n + v) (top : code ≤ greatest n) where
    moved_down :
        (k : ℕ) → suc k ≤ m → (b : Bool) → ltb q (suc k) ≡ b → code_of_light n (cond b (negsuc (suc k - suc q)) (pos (q - suc k))) ≡ code
    unfolding code_of_light
    moved_down k h true t =
        let across : q < suc k = ltb-true _ _ t in
        rw (kept (suc (suc k - suc q)) (omega arith) (omega arith)) (omega (arith, none (omega arith)))
    moved_down k h false t =
        let within : suc k ≤ q = ltb-false _ _ t in
        rw (kept (q - suc k) (omega arith) (omega arith)) (omega arith)

    above : (move : ℤ) → nat_abs move ≤ m → code_of_light n (pos q +ℤ move) ≡ code
    unfolding code_of_light
    above (pos k) h = rw (kept (q + k) (omega arith) (omega arith)) (omega arith)
    above (negsuc k) h = moved_down k h (ltb q (suc k)) refl

-- A level below 0, with light −(p + 1), which no move takes to 0.
module _ (n m v p : ℕ) (kept : Keeps (scale n) m v (suc p)) (far : m ≤ p) (code : ℕ) (e : code + v ≡ offset n) where
  below : (move : ℤ) → nat_abs move ≤ m → code_of_light n (negsuc p +ℤ move) ≡ code
  unfolding code_of_light
  below (pos k) h = rw (lt-ltb k (suc p) (omega arith)) (rw (kept (suc (suc p - suc k)) (omega arith) (omega arith)) (omega arith))
  below (negsuc k) h = rw (kept (suc (suc (p + k))) (omega arith) (omega arith)) (omega arith)

below_black :
    (n m v q : ℕ) → Keeps (scale n) m v q → level_of_light (scale n) 0 ≡ 0 → zero < v → (code : ℕ) → code + v ≡ offset n
    → (move : ℤ) → nat_abs move ≤ m → code_of_light n (neg_ℤ (pos q) +ℤ move) ≡ code
below_black n m v zero kept black some code e move h = absurd (omega (arith, none n m v zero kept black (omega arith)))
below_black n m v (suc p) kept black some code e move h =
    elim (dec_le m p) [
      | yes far ↦ below n m v p kept far code e move h
      | no near ↦ absurd (omega (arith, none n m v (suc p) kept black (omega arith)))
    ]

steady_by :
    (n : ℕ) → Scale n → ((v : ℕ) → v < levels n → Keeps (scale n) (most_moved n) v (light_at n v)) → level_of_light (scale n) 0 ≡ 0 → SteadyAt n
unfolding light_of_code
steady_by n s kept black code h move l =
    let m = most_moved n in
    let v = level_size n code in
    let q = light_at n v in
    elim (dec_le (offset n) code) [
      | yes up ↦ rw (le-ltb code (offset n) up) (above n m v q (kept v (omega arith)) black code (omega arith) h move l)
      | no down ↦ rw (lt-ltb code (offset n) (omega arith)) (below_black n m v q (kept v (omega arith)) black (omega arith) code (omega arith) move l)
    ]

-- Light has codes at two depths.
at_both : (P : ℕ → Type 0) → P 10 → P 12 → (n : ℕ) → offers_codes n ≡ true → P n
at_both P ten twelve n o =
    elim (ℕ_discrete n 10) [
      | yes e ↦ rw e ten
      | no other ↦
          let e : n ≡ 12 = eqb-true n 12 (simp (ne_eqb n 10 other) at o) in
          rw e twelve
    ]

pub steady : Steady
unfolding level_of_light nearest
steady =
    record { back = at_both SteadyAt (steady_by 10 (depth-scale Ten) ten_keeps refl) (steady_by 12 (depth-scale Twelve) twelve_keeps refl) }

-- Light that is moved by no more stays within 32 bits.
abbrev FitsAt : ℕ → Type 0
FitsAt n = (code : ℕ) → code ≤ greatest n → (move : ℤ) → nat_abs move ≤ most_moved n → mag (light_of_code n code +ℤ move) ≤ greatest_light

fits_by : (d : Depth) → most_moved (bits d) ≤ greatest_light - light_end → FitsAt (bits d)
fits_by d few code h move l = omega (arith, light_small d code h, sum-size (light_of_code (bits d) code) move)

pub moved-fits : (n : ℕ) → offers_codes n ≡ true → FitsAt n
moved-fits = at_both FitsAt (fits_by Ten (omega arith)) (fits_by Twelve (omega arith))
