-- The bounds of the searches in the definitions never decide: any greater bound finds the same light, and the same level.
-- Assumes nothing.
use Prim.Native.Nat.{ℕ, zero, ◌+◌, ◌-◌, ◌*◌, ◌^◌, ◌≤◌, ◌<◌}
use mathlib.Core.Path.{◌≡◌}
use mathlib.Core.Bool.{false}
use native.Mathlib.Omega.{arith}
use native.Mathlib.Nat.{lt_of_le_of_lt, lt_of_lt_of_le, mul_assoc, mul_right_comm, mul-le-mul_left, mul-le-mul_right, mul-lt-mul_of_pos_right, pow-le-pow_left}
use borrow.Author.Tests.{lt-leb}
use lib.Dec.{lit<}
use Rattle.transfer.specs.Search.{last_passing}
use Rattle.transfer.specs.Light.{reaches_light, greatest_light}
use Rattle.transfer.specs.Level.{reaches_level, beyond_levels}
use Rattle.transfer.proofs.Search.{last_beyond}
use Rattle.transfer.proofs.Light.{reaches_light_falls}
use Rattle.transfer.proofs.Level.{reaches_level_falls}
use Rattle.transfer.proofs.Scaling.{pow_mul, pow_some}

-- ---- code to light, at levels up to three times the scale
light_fails : (S v : ℕ) → zero < S → v ≤ 3 * S → reaches_light S v greatest_light ≡ false
unfolding reaches_light
light_fails S v s h =
    let X = (211 * S) ^ 12 in
    let wide : (200 * v + 11 * S) ^ 12 ≤ 3 ^ 12 * X = rw (← pow_mul 3 (211 * S) 12) (pow-le-pow_left {m = 3 * (211 * S)} (omega arith) 12) in
    let left : (2 * 10 ^ 6) ^ 5 * (200 * v + 11 * S) ^ 12 ≤ (2 * 10 ^ 6) ^ 5 * 3 ^ 12 * X =
    rw (mul_assoc ((2 * 10 ^ 6) ^ 5) (3 ^ 12) X) (mul-le-mul_left ((2 * 10 ^ 6) ^ 5) wide) in
    lt-leb _ _ (lt_of_le_of_lt left (mul-lt-mul_of_pos_right {k = X} (lit< tt) (pow_some (211 * S) (omega arith) 12)))

pub light_bound : (S v b : ℕ) → zero < S → v ≤ 3 * S → greatest_light ≤ b → last_passing (reaches_light S v) b ≡ last_passing (reaches_light S v) greatest_light
light_bound S v b s h l = last_beyond (reaches_light S v) (reaches_light_falls S v) greatest_light (light_fails S v s h) b l

-- ---- light to code, at every light of 32 bits
level_fails : (S q : ℕ) → zero < S → q ≤ 2 ^ 31 → reaches_level S q (beyond_levels S) ≡ false
unfolding reaches_level
level_fails S q s h =
    let X = (211 * S) ^ 12 in
    let left : q ^ 5 * X ≤ (2 ^ 31) ^ 5 * X = mul-le-mul_right X (pow-le-pow_left h 5) in
    let wide : 25 ^ 12 * X ≤ (200 * (32 * S) + 11 * S - 100) ^ 12 = rw (← pow_mul 25 (211 * S) 12) (pow-le-pow_left {n = 25 * (211 * S)} (omega arith) 12) in
    let right : 25 ^ 12 * X * (10 ^ 6) ^ 5 ≤ (200 * (32 * S) + 11 * S - 100) ^ 12 * (10 ^ 6) ^ 5 = mul-le-mul_right ((10 ^ 6) ^ 5) wide in
    let between : (2 ^ 31) ^ 5 * X < 25 ^ 12 * X * (10 ^ 6) ^ 5 =
    rw (mul_right_comm (25 ^ 12) X ((10 ^ 6) ^ 5)) (mul-lt-mul_of_pos_right {k = X} (lit< tt) (pow_some (211 * S) (omega arith) 12)) in
    lt-leb _ _ (lt_of_le_of_lt left (lt_of_lt_of_le between right))

pub level_bound : (S q b : ℕ) → zero < S → q ≤ 2 ^ 31 → beyond_levels S ≤ b → last_passing (reaches_level S q) b ≡ last_passing (reaches_level S q) (beyond_levels S)
level_bound S q b s h l = last_beyond (reaches_level S q) (reaches_level_falls S q) (beyond_levels S) (level_fails S q s h) b l
