-- Where the search for a level starts, by group of lights: a table of starts is right by tests of each group's first and last light.
-- Assumes nothing.
use Prim.Native.Nat.{ℕ, ◌+◌, ◌-◌, ◌*◌, ◌/◌, ◌≤◌, ◌<◌, min, max}
use mathlib.Core.Path.{◌≡◌, refl}
use mathlib.Core.Bool.{Bool, true, false, and-eq-true_iff, ◌&&◌, ◌||◌}
use mathlib.Core.List.{List}
use native.Mathlib.Omega.{arith}
use native.Mathlib.Nat.{le_trans, lt_of_le_of_lt}
use borrow.Author.Tests.{leb-true, leb-false, ltb-true}
use lib.Dec.{leb, ltb}
use lib.ListN.{length, get_or}
use Rattle.esrgb.specs.Depths.{step, scale}
use Rattle.transfer.specs.Level.{level_of_light}
use Rattle.transfer.specs.HowTabled.{levels, last_group, group_of, few_levels, StartTable}
use Rattle.transfer.proofs.Every.{every, passes_at}
use Rattle.transfer.proofs.Level.{is_from, is_below, level_from, level_below, level_rises, meets}

-- The first and the last light of group j, which is not the last group.
abbrev first_of : ℕ → ℕ
first_of j = max (256 * j) (2048 * (j - 448))

abbrev last_of : ℕ → ℕ
last_of j = first_of (j + 1) - 1

not_before : (q : ℕ) → first_of (group_of q) ≤ q
not_before q = omega arith

not_beyond : (q : ℕ) → group_of q < last_group → q ≤ last_of (group_of q)
not_beyond q h = omega arith

-- A search may start at w in group j: the level of the group's first light is w or more; and that of its last light is among the few
-- from w on, or no levels are left behind those.
unfoldable pub may_start : ℕ → ℕ → ℕ → Bool
may_start n j w =
    is_from (scale n) (first_of j) w
    && (leb (levels n) (w + few_levels) || (ltb j last_group && is_below (scale n) (last_of j) (w + few_levels)))

module _ (n : ℕ) (bend : meets (scale n) ≡ true) (size : levels n ≡ 320 * step n) (q w : ℕ) where
  below_by :
      (b : Bool) → leb (levels n) (w + few_levels) ≡ b → b || (ltb (group_of q) last_group && is_below (scale n) (last_of (group_of q)) (w + few_levels)) ≡ true
      → min (level_of_light (scale n) q) (levels n - 1) < min w (320 * step n - few_levels) + few_levels
  below_by true e t = omega (arith, leb-true (levels n) (w + few_levels) e)
  below_by false e t =
      let p = (and-eq-true_iff (ltb (group_of q) last_group) (is_below (scale n) (last_of (group_of q)) (w + few_levels))).0 t in
      let level : level_of_light (scale n) q < w + few_levels =
      lt_of_le_of_lt (level_rises (scale n) bend q (last_of (group_of q)) (not_beyond q (ltb-true _ _ p.0))) (level_below (scale n) (last_of (group_of q)) (w + few_levels) p.1) in
      omega (arith, level, leb-false (levels n) (w + few_levels) e)

  few-from :
      may_start n (group_of q) w ≡ true
      → (min w (320 * step n - few_levels) ≤ level_of_light (scale n) q)
      × (min (level_of_light (scale n) q) (levels n - 1) < min w (320 * step n - few_levels) + few_levels)
  unfolding may_start
  few-from t =
      let ends = leb (levels n) (w + few_levels) || (ltb (group_of q) last_group && is_below (scale n) (last_of (group_of q)) (w + few_levels)) in
      let p = (and-eq-true_iff (is_from (scale n) (first_of (group_of q)) w) ends).0 t in
      let from : w ≤ level_of_light (scale n) q =
      le_trans (level_from (scale n) (first_of (group_of q)) w p.0) (level_rises (scale n) bend (first_of (group_of q)) q (not_before q)) in
      (omega (arith, from), below_by (leb (levels n) (w + few_levels)) refl p.1)

-- The test of an entry, which is a 12-bit level.
abbrev pub is_start : ℕ → ℕ → ℕ → Bool
is_start n j entry = may_start n j (entry * step n / step 12)

start-at :
    (n : ℕ) (starts : List ℕ) → length starts ≡ last_group + 1 → every (is_start n) 0 starts ≡ true
    → (q : ℕ) → may_start n (group_of q) (get_or starts (group_of q) 0 * step n / step 12) ≡ true
start-at n starts long t q = passes_at (is_start n) starts t (group_of q) (rw long (omega arith))

-- A table of starts, by one test over all of it. The table itself is read off the goal.
pub start_table_holds :
    (n : ℕ) {starts : List ℕ} → meets (scale n) ≡ true → levels n ≡ 320 * step n → length starts ≡ last_group + 1
    → every (is_start n) 0 starts ≡ true → StartTable n starts
start_table_holds n {starts} bend size long t =
    record {
      low = λ q. (few-from n bend size q (get_or starts (group_of q) 0 * step n / step 12) (start-at n starts long t q)).0;
      high = λ q. (few-from n bend size q (get_or starts (group_of q) 0 * step n / step 12) (start-at n starts long t q)).1;
    }
