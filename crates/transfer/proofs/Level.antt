-- Level by light: it rises with the light, and when a number is the threshold of a level, so that a table of thresholds is right by tests.
-- Assumes nothing.
use Prim.Native.Nat.{ℕ, ◌+◌, ◌-◌, ◌*◌, ◌^◌, ◌≤◌, ◌<◌}
use mathlib.Core.Path.{◌≡◌, refl}
use mathlib.Core.Bool.{Bool, true, false, cond, not, and-eq-true_iff, ◌&&◌, ◌||◌}
use mathlib.Core.List.{List}
use native.Mathlib.Omega.{arith}
use native.Mathlib.Nat.{le_trans, lt_of_le_of_lt, mul-le-mul_left, mul-le-mul_right, pow-le-pow_left}
use borrow.Author.Tests.{leb-true, leb-false, le-leb, ltb-true, eqb-true, not-true}
use lib.Dec.{leb, ltb, eqb}
use lib.ListN.{length, get_or}
use Rattle.esrgb.specs.Depths.{scale}
use Rattle.numbers.specs.Rounding.{nearest}
use Rattle.transfer.specs.Search.{last_passing}
use Rattle.transfer.specs.Level.{low_light, reaches_level, beyond_levels, level_of_light}
use Rattle.transfer.specs.HowTabled.{levels, Threshold, ThresholdTable}
use Rattle.transfer.proofs.Search.{Falls, last_from, last_below, last_rises}
use Rattle.transfer.proofs.Every.{every, passes_at}

pub reaches_level_falls : (S q : ℕ) → Falls (reaches_level S q)
unfolding reaches_level
reaches_level_falls S q j k h t =
    le-leb _ _ (le_trans (mul-le-mul_right ((10 ^ 6) ^ 5) (pow-le-pow_left {n = 200 * j + 11 * S - 100} {m = 200 * k + 11 * S - 100} (omega arith) 12)) (leb-true _ _ t))

-- What a light reaches, more light reaches.
reaches_more : (S w p q : ℕ) → p ≤ q → reaches_level S p w ≡ true → reaches_level S q w ≡ true
unfolding reaches_level
reaches_more S w p q h t = le-leb _ _ (le_trans (leb-true _ _ t) (mul-le-mul_right ((211 * S) ^ 12) (pow-le-pow_left h 5)))

-- The level on the line, where light q is on it.
abbrev pub on_line : ℕ → ℕ → ℕ
on_line S q = nearest (1292 * q * S) (10 ^ 8)

on_line_rises : (S p q : ℕ) → p ≤ q → on_line S p ≤ on_line S q
unfolding nearest
on_line_rises S p q h =
    let more : 1292 * p * S ≤ 1292 * q * S = mul-le-mul_right S (mul-le-mul_left 1292 h) in
    omega arith

-- ---- a level is at least w, or below w: one test each
unfoldable pub is_from : ℕ → ℕ → ℕ → Bool
is_from S q w = cond (low_light q) (leb w (on_line S q)) (leb w (beyond_levels S) && reaches_level S q w)

unfoldable pub is_below : ℕ → ℕ → ℕ → Bool
is_below S q w = cond (low_light q) (ltb (on_line S q) w) (ltb 0 w && not (reaches_level S q w))

abbrev level_by : ℕ → ℕ → Bool → ℕ
level_by S q b = cond b (on_line S q) (last_passing (reaches_level S q) (beyond_levels S))

from_by : (S q w : ℕ) (b : Bool) → cond b (leb w (on_line S q)) (leb w (beyond_levels S) && reaches_level S q w) ≡ true → w ≤ level_by S q b
from_by S q w true t = leb-true _ _ t
from_by S q w false t =
    let p = (and-eq-true_iff (leb w (beyond_levels S)) (reaches_level S q w)).0 t in
    last_from (reaches_level S q) (beyond_levels S) w (leb-true _ _ p.0) p.1

below_by : (S q w : ℕ) (b : Bool) → cond b (ltb (on_line S q) w) (ltb 0 w && not (reaches_level S q w)) ≡ true → level_by S q b < w
below_by S q w true t = ltb-true _ _ t
below_by S q w false t =
    let p = (and-eq-true_iff (ltb 0 w) (not (reaches_level S q w))).0 t in
    last_below (reaches_level S q) (reaches_level_falls S q) (beyond_levels S) w (ltb-true _ _ p.0) (not-true _ p.1)

pub level_from : (S q w : ℕ) → is_from S q w ≡ true → w ≤ level_of_light S q
unfolding is_from level_of_light
level_from S q w t = from_by S q w (low_light q) t

pub level_below : (S q w : ℕ) → is_below S q w ≡ true → level_of_light S q < w
unfolding is_below level_of_light
level_below S q w t = below_by S q w (low_light q) t

-- ---- the level rises with the light. At the bend, from 3,130 to 3,131, that is one test of the scale
unfoldable pub meets : ℕ → Bool
meets S = leb (on_line S 3130) (beyond_levels S) && reaches_level S 3131 (on_line S 3130)

module _ (S : ℕ) (bend : meets S ≡ true) (p q : ℕ) (h : p ≤ q) where
  rises_by : (b c : Bool) → low_light p ≡ b → low_light q ≡ c → level_by S p b ≤ level_by S q c
  unfolding meets
  rises_by true true e f = on_line_rises S p q h
  rises_by true false e f =
      let on : 10 * p ≤ 31308 = leb-true _ _ e in
      let past : 31308 < 10 * q = leb-false _ _ f in
      let m = (and-eq-true_iff (leb (on_line S 3130) (beyond_levels S)) (reaches_level S 3131 (on_line S 3130))).0 bend in
      let under : on_line S p ≤ on_line S 3130 = on_line_rises S p 3130 (omega arith) in
      last_from (reaches_level S q) (beyond_levels S) (on_line S p)
      (le_trans under (leb-true _ _ m.0))
      (reaches_more S (on_line S p) 3131 q (omega arith) (reaches_level_falls S 3131 (on_line S p) (on_line S 3130) under m.1))
  rises_by false true e f =
      let past : 31308 < 10 * p = leb-false _ _ e in
      let on : 10 * q ≤ 31308 = leb-true _ _ f in
      absurd (omega arith)
  rises_by false false e f = last_rises (reaches_level S p) (reaches_level S q) (λ k t. reaches_more S k p q h t) (beyond_levels S)

  pub level_rises : level_of_light S p ≤ level_of_light S q
  unfolding level_of_light
  level_rises = rises_by (low_light p) (low_light q) refl refl

-- ---- t is the threshold of level w: the level of t is at least w, and that of t − 1 is not
unfoldable pub is_threshold : ℕ → ℕ → ℕ → Bool
is_threshold S w t = is_from S t w && (eqb t 0 || is_below S (t - 1) w)

module _ (S : ℕ) (bend : meets S ≡ true) (w t : ℕ) where
  under_by : (b : Bool) → eqb t 0 ≡ b → b || is_below S (t - 1) w ≡ true → (q : ℕ) → q < t → level_of_light S q < w
  under_by true e k q h = let none : t ≡ 0 = eqb-true _ _ e in absurd (omega arith)
  under_by false e k q h = lt_of_le_of_lt (level_rises S bend q (t - 1) (omega arith)) (level_below S (t - 1) w k)

  pub threshold_is : is_threshold S w t ≡ true → Threshold S w t
  unfolding is_threshold
  threshold_is k =
      let p = (and-eq-true_iff (is_from S t w) (eqb t 0 || is_below S (t - 1) w)).0 k in
      record { from = λ q h. le_trans (level_from S t w p.0) (level_rises S bend t q h); below = under_by (eqb t 0) refl p.1 }

-- A table of thresholds, by one test over all of it. The table itself is read off the goal.
pub threshold_table_holds :
    (n : ℕ) {thresholds : List ℕ} → meets (scale n) ≡ true → length thresholds ≡ levels n
    → every (is_threshold (scale n)) 0 thresholds ≡ true → ThresholdTable n thresholds
threshold_table_holds n {thresholds} bend size t =
    record {
      long = size;
      at = λ w h. threshold_is (scale n) bend w (get_or thresholds w 0) (passes_at (is_threshold (scale n)) thresholds t w (rw size h));
    }
