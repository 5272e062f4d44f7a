-- The tint that a pixel takes is at the least distance and comes before the others, no four tints are nearer than all, and sums pixel by pixel.
-- Assumes nothing.
use Prim.Native.Nat.{ℕ, zero, suc, ◌+◌, ◌-◌, ◌*◌, ◌≤◌, ◌<◌, min}
use mathlib.Core.Path.{◌≡◌, refl, sym, ap, ◌∙◌}
use mathlib.Core.Bool.{Bool, true, false, cond}
use mathlib.Core.List.{List, [], ◌∷◌}
use mathlib.Core.Logic.{inl, inr, ⊎_elim}
use native.Mathlib.Nat.{le_refl, le_trans, eq-or-lt_of_le}
use native.Mathlib.Numerals.{add-one}
use native.Mathlib.Omega.{arith}
use borrow.Author.Tests.{eqb-true, eqb-false, ltb-true, ltb-false}
use lib.Dec.{eqb, ltb}
use lib.ListN.{length, get_or, drop, drop_of_length-le}
use lib.Seq.{drop-cons}
use Rattle.samples.specs.declared.Pixel.{Pixel}
use Rattle.samples.specs.Samples.{no_pixel, pixels_of}
use Rattle.esrgb.specs.Depths.{greatest}
use Rattle.stickers.specs.declared.Four.{Four}
use Rattle.stickers.specs.Distances.{tint, apart, away, tint_luma, winner, nearest, least_of, summed}
use Rattle.stickers.specs.Choices.{tint_count, upward, from, tint_of, least_of_four, sum_of, least_of_all, sum_of_all}
use Rattle.stickers.specs.Promise.{Ascending, Before, OneOf, Takes}
use Rattle.stickers.specs.HowSummed.{AllCodes, TintCodes, CodePixel}

module _ (tints : List ℕ) (p : Pixel) where
  -- ---- two tints
  -- What is to be shown of the winner is shown of each of the two where that one wins.
  module _ (P : ℕ → Type 0) (x y : ℕ)
      (nearer-later : away tints p y < away tints p x → P y)
      (darker-later : away tints p y ≡ away tints p x → tint_luma tints y < tint_luma tints x → P y)
      (darker-first : away tints p y ≡ away tints p x → tint_luma tints x ≤ tint_luma tints y → P x)
      (nearer-first : away tints p x < away tints p y → P x) where
    winner_by :
        (as-near darker nearer : Bool) → eqb (away tints p y) (away tints p x) ≡ as-near → ltb (tint_luma tints y) (tint_luma tints x) ≡ darker
        → ltb (away tints p y) (away tints p x) ≡ nearer → P (cond (cond as-near darker nearer) y x)
    winner_by true true nearer e d n = darker-later (eqb-true _ _ e) (ltb-true _ _ d)
    winner_by true false nearer e d n = darker-first (eqb-true _ _ e) (ltb-false _ _ d)
    winner_by false darker true e d n = nearer-later (ltb-true _ _ n)
    winner_by false darker false e d n =
        nearer-first (omega (arith, ltb-false (away tints p y) (away tints p x) n, eqb-false (away tints p y) (away tints p x) e))

    pub winner-is : P (winner tints p x y)
    unfolding winner
    winner-is = winner_by _ _ _ refl refl refl

  pub winner_both : (P : ℕ → Type 0) (x y : ℕ) → P x → P y → P (winner tints p x y)
  winner_both P x y hx hy = winner-is P x y (λ n. hy) (λ e d. hy) (λ e d. hx) (λ n. hx)

  winner-least : (x y : ℕ) → away tints p (winner tints p x y) ≡ min (away tints p x) (away tints p y)
  winner-least x y =
      winner-is (λ t. away tints p t ≡ min (away tints p x) (away tints p y)) x y (λ n. omega arith) (λ e d. omega arith) (λ e d. omega arith) (λ n. omega arith)

  -- ---- which tint is taken before which
  nearer_before : (t u : ℕ) → away tints p t < away tints p u → Before tints p t u
  nearer_before t u h = record { near = omega arith; dark = λ e. absurd (omega arith); low = λ e l. absurd (omega arith) }

  darker-before : (t u : ℕ) → away tints p t ≡ away tints p u → tint_luma tints t < tint_luma tints u → Before tints p t u
  darker-before t u e h = record { near = omega arith; dark = λ same. omega arith; low = λ same l. absurd (omega arith) }

  lower_before : (t u : ℕ) → away tints p t ≡ away tints p u → tint_luma tints t ≤ tint_luma tints u → t ≤ u → Before tints p t u
  lower_before t u e d h = record { near = omega arith; dark = λ same. d; low = λ same l. h }

  before_itself : (t : ℕ) → Before tints p t t
  before_itself t = lower_before t t refl (le_refl (tint_luma tints t)) (le_refl t)

  before_both : (t u v : ℕ) → Before tints p t u → Before tints p u v → Before tints p t v
  before_both t u v h k =
      record {
        near = le_trans h.near k.near;
        dark = λ e. le_trans (h.dark (as-near e)) (k.dark (as-near' e));
        low = λ e l.
            let d = h.dark (as-near e) in
            let d' = k.dark (as-near' e) in
            le_trans (h.low (as-near e) (omega arith)) (k.low (as-near' e) (omega arith));
      }
    where
      as-near : away tints p t ≡ away tints p v → away tints p t ≡ away tints p u
      as-near e = omega (arith, h.near, k.near)

      as-near' : away tints p t ≡ away tints p v → away tints p u ≡ away tints p v
      as-near' e = omega (arith, h.near, k.near)

  winner-before : (x y : ℕ) → x < y → Before tints p (winner tints p x y) x × Before tints p (winner tints p x y) y
  winner-before x y h =
      winner-is (λ t. Before tints p t x × Before tints p t y) x y
      (λ n. (nearer_before y x n, before_itself y))
      (λ e d. (darker-before y x e d, before_itself y))
      (λ e d. (before_itself x, lower_before x y (sym e) d (omega arith)))
      (λ n. (before_itself x, nearer_before x y n))

  -- ---- a set of tints
  pub nearest-least : (x : ℕ) (ys : List ℕ) → away tints p (nearest tints p x ys) ≡ least_of tints p (away tints p x) ys
  unfolding nearest least_of
  nearest-least x [] = refl
  nearest-least x (y ∷ ys) = nearest-least (winner tints p x y) ys ∙ ap (λ m. least_of tints p m ys) (winner-least x y)

  -- The winners of the first two, three and four tints have lower numbers than what comes next.
  pub winners_below :
      (f : Four) → Ascending f →
      let x = winner tints p f.first f.second in
      let y = winner tints p x f.third in
      (x < f.third) × (y < f.fourth) × (winner tints p y f.fourth < tint_count)
  winners_below f h =
      let x = winner tints p f.first f.second in
      let y = winner tints p x f.third in
      let low : x < f.third = winner_both (λ n. n < f.third) f.first f.second (omega (arith, h.low, h.middle)) h.middle in
      let middle : y < f.fourth = winner_both (λ n. n < f.fourth) x f.third (omega (arith, h.high)) h.high in
      (low, middle, winner_both (λ n. n < tint_count) y f.fourth (omega (arith, h.there)) h.there)

  -- The tint that a pixel takes of four.
  pub nearest-takes : (f : Four) → Ascending f → Takes tints f p (tint_of tints f p)
  unfolding nearest
  nearest-takes f h =
      let x = winner tints p f.first f.second in
      let y = winner tints p x f.third in
      let z = winner tints p y f.fourth in
      let below = winners_below f h in
      let two = winner-before f.first f.second h.low in
      let three = winner-before x f.third below.0 in
      let four = winner-before y f.fourth below.1 in
      let one_of_two = winner_both (OneOf f) f.first f.second (inl refl) (inr (inl refl)) in
      let one_of_three = winner_both (OneOf f) x f.third one_of_two (inr (inr (inl refl))) in
      let before-two = before_both z y x four.0 three.0 in
      record {
        one = winner_both (OneOf f) y f.fourth one_of_three (inr (inr (inr refl)));
        first = before_both z x f.first before-two two.0;
        second = before_both z x f.second before-two two.1;
        third = before_both z y f.third four.0 three.1;
        fourth = four.1;
      }

  least_first : (m : ℕ) (ys : List ℕ) → least_of tints p m ys ≤ m
  unfolding least_of
  least_first m [] = le_refl m
  least_first m (y ∷ ys) = le_trans (least_first (min m (away tints p y)) ys) (omega arith)

  least-upward : (count m n t : ℕ) → n ≤ t → t < n + count → least_of tints p m (upward count n) ≤ away tints p t
  unfolding least_of upward
  least-upward zero m n t h l = absurd (omega arith)
  least-upward (suc count) m n t h l =
      ⊎_elim
      (λ e. rw (← e) (le_trans (least_first (min m (away tints p n)) (upward count (n + 1))) (omega arith)))
      (λ k. least-upward count (min m (away tints p n)) (n + 1) t (omega arith) (omega arith))
      (eq-or-lt_of_le h)

  -- No tint is nearer than the least of all.
  least_of_all_lem : (t : ℕ) → t < tint_count → least_of_all tints p ≤ away tints p t
  least_of_all_lem zero h = least_first (away tints p 0) (from 1)
  least_of_all_lem (suc t) h = least-upward (tint_count - 1) (away tints p 0) 1 (suc t) (omega arith) (omega arith)

  four-above : (f : Four) → Ascending f → least_of_all tints p ≤ least_of_four tints f p
  unfolding least_of
  four-above f h =
      let a = least_of_all_lem f.first (omega arith) in
      let b = least_of_all_lem f.second (omega arith) in
      let c = least_of_all_lem f.third (omega arith) in
      let d = least_of_all_lem f.fourth (omega arith) in
      omega arith

  -- ---- all tints, one after another
  pub least_starts : least_of tints p (away tints p 0) (from 0) ≡ least_of_all tints p
  unfolding least_of upward
  least_starts = ap (λ m. least_of tints p m (from 1)) (omega arith)

  pub least_more : (m t : ℕ) → t < tint_count → least_of tints p m (from t) ≡ least_of tints p (min m (away tints p t)) (from (t + 1))
  unfolding least_of upward
  least_more m t h =
      let e : tint_count - t ≡ suc (tint_count - (t + 1)) = omega arith in
      rw e refl

  pub least_ends : (m t : ℕ) → tint_count ≤ t → least_of tints p m (from t) ≡ m
  unfolding least_of upward
  least_ends m t h =
      let e : tint_count - t ≡ 0 = omega arith in
      rw e refl

-- ---- sums
pub summed-more :
    (f : Pixel → ℕ) (ps : List Pixel) (i : ℕ) → i < length ps → summed f (drop i ps) ≡ f (get_or ps i no_pixel) + summed f (drop (i + 1) ps)
unfolding summed
summed-more f ps i h = rw (drop-cons ps i no_pixel h, add-one) refl

pub summed_ends : (f : Pixel → ℕ) (ps : List Pixel) (i : ℕ) → length ps ≤ i → summed f (drop i ps) ≡ 0
unfolding summed
summed_ends f ps i h = rw (drop_of_length-le ps {i = i} h) refl

-- No four tints have a sum below that with all.
pub sum-above : (tints : List ℕ) (f : Four) → Ascending f → (ps : List Pixel) → sum_of_all tints ps ≤ sum_of tints ps f
unfolding summed
sum-above tints f h [] = omega arith
sum-above tints f h (p ∷ ps) = omega (arith, four-above tints p f h, sum-above tints f h ps)

-- ---- codes of 12 bits
pub pixel-codes : (xs : List ℕ) → AllCodes xs → (i : ℕ) → CodePixel (get_or (pixels_of xs) i no_pixel)
pixel-codes [] h i = omega arith
pixel-codes (a ∷ []) h i = omega arith
pixel-codes (a ∷ b ∷ []) h i = omega arith
pixel-codes (a ∷ b ∷ c ∷ rest) h zero = (h 0, h 1, h 2)
pixel-codes (a ∷ b ∷ c ∷ rest) h (suc i) = pixel-codes rest (λ k. h (suc (suc (suc k)))) i

pub tint-codes : (tints : List ℕ) → TintCodes tints → (t : ℕ) → t < tint_count → CodePixel (tint tints t)
tint-codes tints h t l = (h (3 * t) (omega arith), h (3 * t + 1) (omega arith), h (3 * t + 2) (omega arith))

pub apart_small : (x y : ℕ) → x ≤ greatest 12 → y ≤ greatest 12 → apart x y ≤ greatest 12
apart_small x y h l = omega arith

pub three_is : (a b c x y z : ℕ) → a ≡ x → b ≡ y → c ≡ z → a + b + c ≡ x + y + z
three_is a b c x y z e f g = omega arith
