-- Laws of the last number that passes a test.
-- Assumes nothing.
use Prim.Native.Nat.{ℕ, zero, suc, ◌≤◌, ◌<◌}
use mathlib.Core.Path.{◌≡◌, refl, sym, ap, ◌∙◌}
use mathlib.Core.Bool.{Bool, true, false, false≢true, cond}
use native.Mathlib.Omega.{arith}
use native.Mathlib.Decide.{dec_le}
use Rattle.transfer.specs.Search.{last_passing}

-- What is below a number that passes, passes.
abbrev pub Falls : (ℕ → Bool) → Type 0
Falls f = (j k : ℕ) → j ≤ k → f k ≡ true → f j ≡ true

-- The choice between suc n and an earlier number x.
chosen-most : (b : Bool) (n x : ℕ) → x ≤ n → cond b (suc n) x ≤ suc n
chosen-most true n x h = omega arith
chosen-most false n x h = omega arith

chosen-least : (b : Bool) (n x : ℕ) → x ≤ n → x ≤ cond b (suc n) x
chosen-least true n x h = omega arith
chosen-least false n x h = omega arith

chosen_rises : (b c : Bool) (n x y : ℕ) → (b ≡ true → c ≡ true) → x ≤ n → x ≤ y → cond b (suc n) x ≤ cond c (suc n) y
chosen_rises true true n x y g h l = omega arith
chosen_rises true false n x y g h l = absurd (false≢true (g refl))
chosen_rises false true n x y g h l = omega arith
chosen_rises false false n x y g h l = l

pub last_most : (f : ℕ → Bool) (n : ℕ) → last_passing f n ≤ n
unfolding last_passing
last_most f zero = omega arith
last_most f (suc n) = chosen-most (f (suc n)) n (last_passing f n) (last_most f n)

-- A number that passes is at most the last.
pub last_from : (f : ℕ → Bool) (n q : ℕ) → q ≤ n → f q ≡ true → q ≤ last_passing f n
unfolding last_passing
last_from f zero q h t = h
last_from f (suc n) q h t =
    elim (dec_le q n) [
      | yes l ↦
          let least : last_passing f n ≤ cond (f (suc n)) (suc n) (last_passing f n) = chosen-least (f (suc n)) n (last_passing f n) (last_most f n) in
          omega (arith, last_from f n q l t)
      | no l ↦
          let e : q ≡ suc n = omega arith in
          rw (← e, t) (omega arith)
    ]

-- Of a test that falls, a number that fails is above the last.
module _ (f : ℕ → Bool) (falls : Falls f) where
  below_by : (n q : ℕ) → f q ≡ false → last_passing f n < q → (b : Bool) → f (suc n) ≡ b → cond b (suc n) (last_passing f n) < q
  below_by n q e h true t =
      elim (dec_le q (suc n)) [
        | yes l ↦ absurd (false≢true (sym e ∙ falls q (suc n) l t))
        | no l ↦ omega arith
      ]
  below_by n q e h false t = h

  pub last_below : (n q : ℕ) → zero < q → f q ≡ false → last_passing f n < q
  unfolding last_passing
  last_below zero q h e = h
  last_below (suc n) q h e = below_by n q e (last_below n q h e) (f (suc n)) refl

  -- A number that passes and whose next fails is the last.
  pub last_is : (n q : ℕ) → q ≤ n → f q ≡ true → f (suc q) ≡ false → last_passing f n ≡ q
  last_is n q h t e = omega (arith, last_from f n q h t, last_below n (suc q) (omega arith) e)

  fails_beyond : (b k : ℕ) → f b ≡ false → b ≤ k → (x : Bool) → f k ≡ x → x ≡ false
  fails_beyond b k e h true t = absurd (false≢true (sym e ∙ falls b k h t))
  fails_beyond b k e h false t = refl

  -- A bound that fails never decides: every greater bound finds the same.
  pub last_beyond : (b : ℕ) → f b ≡ false → (c : ℕ) → b ≤ c → last_passing f c ≡ last_passing f b
  unfolding last_passing
  last_beyond b e zero h =
      let z : b ≡ zero = omega arith in
      ap (last_passing f) (sym z)
  last_beyond b e (suc c) h =
      elim (dec_le b c) [
        | yes l ↦ rw (fails_beyond b (suc c) e h (f (suc c)) refl) (last_beyond b e c l)
        | no l ↦
            let z : b ≡ suc c = omega arith in
            ap (last_passing f) (sym z)
      ]

-- Of a test that more numbers pass, the last is no less.
pub last_rises : (f g : ℕ → Bool) → ((k : ℕ) → f k ≡ true → g k ≡ true) → (n : ℕ) → last_passing f n ≤ last_passing g n
unfolding last_passing
last_rises f g h zero = omega arith
last_rises f g h (suc n) = chosen_rises (f (suc n)) (g (suc n)) n (last_passing f n) (last_passing g n) (h (suc n)) (last_most f n) (last_rises f g h n)
