-- A double between 0 and a limit, on which side of the halfway point above its whole part it lies, and so which whole number is nearest.
-- Assumes nothing.
use Rattle.std.proofs.Common.{◌≡◌, ℕ, zero, suc, ◌+◌, ◌-◌, ◌*◌, ◌/◌, ◌^◌, ◌<◌, ◌≤◌, min, Bool, true, false, cond, T, ltb, ℤ, pos, negsuc, neg_ℤ, nat_abs, sym, refl, ap, ◌∙◌, subst, true≢false, lt_of_lt_of_le, mul-le-mul_right, mul_assoc, div-lt_iff_lt-mul, mul-lt-mul_of_pos_right, mul-pos, le-div_iff_mul-le, mul_right_comm, div-mul-le_self, arith, lit<, lit≤, lt→ltb, shl_lt, ltb-false, ltb-true, le-ltb, lt-ltb}
use mathlib.Core.Bool.{false≢true}
use native.Mathlib.Nat.{lt-div-mul-add, div-eq_of_lt-le, zero-min}
use lib.Signed.{mag, non_neg}
use lib.Ieee.{Float, nan, inf, fin, binary64, low, up, down, lt, neg, add, div, of_int, of_bits, to_unsigned}
use lib.Ieee.Exact.{HasValue, round_exact}
use lib.Ieee.Back.{round_whole}
use lib.Ieee.Scale.{round_same, overflow, finite}
use lib.Ieee.Fits.{down_pos}
use Rattle.std.specs.Float.{float_is_finite}
use Rattle.numbers.specs.Rounding.{nearest, nearest_down}
use Rattle.doubles.specs.Doubles.{nearest_whole}
use Rattle.doubles.specs.HowWhole.{nearest_by, nearest_size}
use Rattle.doubles.specs.declared.Ties.{Ties}
use Rattle.doubles.specs.declared.Ties.TheVariants.{Up, Down}

-- ---- comparisons of fractions

scaled : (x y c : ℕ) → 0 < c → ltb (x * c) (y * c) ≡ ltb x y
scaled x y c some = by (ltb x y) refl
  where
    by : (t : Bool) → ltb x y ≡ t → ltb (x * c) (y * c) ≡ ltb x y
    by true h = lt-ltb (x * c) (y * c) (mul-lt-mul_of_pos_right (ltb-true x y h) some) ∙ sym h
    by false h = le-ltb (x * c) (y * c) (mul-le-mul_right c (ltb-false x y h)) ∙ sym h

-- p / e against q / d, which is a / c.
module _ (p e q d a c : ℕ) (D : 0 < d) (C : 0 < c) (same : q * c ≡ a * d) where
  first-over : p * d * c ≡ p * c * d
  first-over = mul_right_comm p d c

  second-over : q * e * c ≡ a * e * d
  second-over = mul_right_comm q e c ∙ ap (λ (z : ℕ). z * e) same ∙ mul_right_comm a d e

  is_below : ltb (p * d) (q * e) ≡ ltb (p * c) (a * e)
  is_below = sym (scaled (p * d) (q * e) c C) ∙ rw (first-over, second-over) (scaled (p * c) (a * e) d D)

  is-above : ltb (q * e) (p * d) ≡ ltb (a * e) (p * c)
  is-above = sym (scaled (q * e) (p * d) c C) ∙ rw (first-over, second-over) (scaled (a * e) (p * c) d D)

-- A double that is not negative against one of the value a / c.
module _ (m : ℕ) (e : ℤ) (a c : ℕ) (C : 0 < c) where
  pub below_value : (y : Float) → HasValue y false a c → lt (fin false m e) y ≡ ltb (m * up e * c) (a * down e)
  unfolding lt
  below_value nan v = absurd v
  below_value (inf s) v = absurd v
  below_value (fin true n d) v = absurd (true≢false v.0)
  below_value (fin false n d) v = is_below (m * up e) (down e) (n * up d) (down d) a c (down_pos d) C v.1

  pub above_value : (y : Float) → HasValue y false a c → lt y (fin false m e) ≡ ltb (a * down e) (m * up e * c)
  unfolding lt
  above_value nan v = absurd v
  above_value (inf s) v = absurd v
  above_value (fin true n d) v = absurd (true≢false v.0)
  above_value (fin false n d) v = is-above (m * up e) (down e) (n * up d) (down d) a c (down_pos d) C v.1

-- ---- the doubles that the code compares with have no rounding in them

-- A number of the code, of 32 bits.
abbrev Small : ℕ → Type 0
Small n = n < 2 ^ 32

pub whole_value : (n : ℕ) → Small n → HasValue (of_int binary64 (pos n)) false n 1
unfolding of_int
whole_value n h = round_whole binary64 false n (omega arith)

-- n + 0.5
abbrev pub halfway : ℕ → Float
halfway n = add binary64 (of_int binary64 (pos n)) (of_bits binary64 0x3fe0_0000_0000_0000)

-- A half, in units of the smallest double, is 2 to this.
abbrev half : ℕ
half = low binary64 - 1

halves : (a n d : ℕ) → a * 1 ≡ n * d → (a * 2 + 1 * d) * 2 ≡ (2 * n + 1) * (d * 2)
halves a n d h = omega arith

room : (n : ℕ) → Small n → (2 * n + 1) * 2 ^ half < overflow binary64
room n h = let k : 2 * n + 1 < 2 ^ 33 = omega arith in lt_of_lt_of_le (shl_lt 33 half k) (lit≤ tt)

plus_half : (x : Float) (n : ℕ) → Small n → HasValue x false n 1 → HasValue (add binary64 x (fin false 1 (negsuc 0))) false (2 * n + 1) 2
unfolding add
plus_half nan n h v = absurd v
plus_half (inf s) n h v = absurd v
plus_half (fin true m e) n h v = absurd (true≢false v.0)
plus_half (fin false m e) n h v =
    subst (λ (z : Float). HasValue z false (2 * n + 1) 2)
    (sym (round_same binary64 false (m * up e * 2 + 1 * down e) (down e * 2) (2 * n + 1) 2 (mul-pos (down_pos e) (lit< tt)) (lit< tt) (halves (m * up e) n (down e) v.1)))
    (round_exact binary64 false (2 * n + 1) 2 (2 * n + 1) half (lit< tt) (omega arith) (room n h) (sym (mul_assoc (2 * n + 1) (2 ^ half) 2)))

halfway_value : (n : ℕ) → Small n → HasValue (halfway n) false (2 * n + 1) 2
unfolding of_bits
halfway_value n h = plus_half (of_int binary64 (pos n)) n h (whole_value n h)

-- ---- a / b, whose whole part is n
module _ (a b n : ℕ) (B : 0 < b) (lo : n * b ≤ a) (hi : a < n * b + b) where
  up_nearest : (t : Bool) → ltb (a * 2) ((2 * n + 1) * b) ≡ t → cond t n (n + 1) ≡ nearest a b
  unfolding nearest
  up_nearest true h =
      let k : a * 2 < (2 * n + 1) * b = ltb-true (a * 2) ((2 * n + 1) * b) h in
      sym (div-eq_of_lt-le (2 * b) (omega arith) (omega arith))
  up_nearest false h =
      let k : (2 * n + 1) * b ≤ a * 2 = ltb-false (a * 2) ((2 * n + 1) * b) h in
      sym (div-eq_of_lt-le (2 * b) (omega arith) (omega arith))

  down_nearest : (t : Bool) → ltb ((2 * n + 1) * b) (a * 2) ≡ t → cond t (n + 1) n ≡ nearest_down a b
  unfolding nearest_down
  down_nearest true h =
      let k : (2 * n + 1) * b < a * 2 = ltb-true ((2 * n + 1) * b) (a * 2) h in
      sym (div-eq_of_lt-le (2 * b) (omega arith) (omega arith))
  down_nearest false h =
      let k : a * 2 ≤ (2 * n + 1) * b = ltb-false ((2 * n + 1) * b) (a * 2) h in
      sym (div-eq_of_lt-le (2 * b) (omega arith) (omega arith))

-- ---- a double above 0 and below the limit
pub record Inside (top : ℕ) (x : Float) : Type 0 where
  pub m : ℕ
  pub e : ℤ
  pub is : x ≡ fin false m e
  pub less : m * up e < top * down e

inf_above : (y : Float) (a c : ℕ) → HasValue y false a c → lt (inf false) y ≡ true → ⊥
unfolding lt
inf_above nan a c v h = absurd v
inf_above (inf s) a c v h = absurd v
inf_above (fin t n d) a c v h = false≢true h

pub inside : (top : ℕ) (x : Float) → Small top → lt (of_bits binary64 0) x ≡ true → lt x (of_int binary64 (pos top)) ≡ true → Inside top x
inside top nan small p q = absurd (unfold lt in false≢true q)
inside top (inf true) small p q = absurd (unfold lt of_bits in false≢true p)
inside top (inf false) small p q = absurd (inf_above (of_int binary64 (pos top)) top 1 (whole_value top small) q)
inside top (fin true m e) small p q = absurd (unfold lt of_bits in false≢true p)
inside top (fin false m e) small p q =
    let k : m * up e * 1 < top * down e = ltb-true _ _ (sym (below_value m e top 1 (lit< tt) (of_int binary64 (pos top)) (whole_value top small)) ∙ q) in
    record { m = m; e = e; is = refl; less = omega arith }

-- What the truncation asks.
above_minus_one : (m : ℕ) (e : ℤ) → T (lt (fin true 1 (pos 0)) (fin false m e))
unfolding lt
above_minus_one m e = lt→ltb 0 (1 * 1 * down e + m * up e * 1) (omega (arith, down_pos e))

below_range : (top m : ℕ) (e : ℤ) → Small top → m * up e < top * down e → T (lt (fin false m e) (fin false 1 (pos 64)))
unfolding lt
below_range top m e small h =
    let k : top * down e ≤ 2 ^ 64 * down e = mul-le-mul_right (down e) (omega arith) in
    lt→ltb (m * up e * 1) (1 * 2 ^ 64 * down e) (omega arith)

module _ (top : ℕ) (x : Float) (small : Small top) (i : Inside top x) where
  pub in_range : T (lt (fin true 1 (pos 0)) x) × T (lt x (fin false 1 (pos 64)))
  in_range = (rw i.is (above_minus_one i.m i.e), rw i.is (below_range top i.m i.e small i.less))

  -- The size is a / b.
  a : ℕ
  a = i.m * up i.e

  b : ℕ
  b = down i.e

  -- n is its whole part.
  module _ (n : ℕ) (is-n : n ≡ to_unsigned 64 x) where
    part_less : a / b < top
    unfolding a b
    part_less = (div-lt_iff_lt-mul (down_pos i.e)).1 i.less

    n_is : n ≡ a / b
    unfolding to_unsigned a b
    n_is = is-n ∙ ap (to_unsigned 64) i.is ∙ (let h : a / b < top = part_less in omega arith)

    pub n_less : n < top
    n_less = rw n_is part_less

    low_end : n * b ≤ a
    low_end = rw n_is (div-mul-le_self a b)

    high_end : a < n * b + b
    unfolding b
    high_end = rw n_is (lt-div-mul-add (down_pos i.e))

    half_value : HasValue (halfway n) false (2 * n + 1) 2
    half_value = halfway_value n (let h : n < top = n_less in omega arith)

    -- Both neighbours are within the limit.
    either : (t : Bool) → (cond t n (n + 1) ≤ top) × (cond t (n + 1) n ≤ top)
    either true = let l : n < top = n_less in (omega arith, omega arith)
    either false = let l : n < top = n_less in (omega arith, omega arith)

    unclipped : (ties told : Ties) → ties ≡ told → (r : ℕ) → r ≤ top → r ≡ nearest_by told a b → r ≡ nearest_size ties top x
    unfolding nearest_size a b
    unclipped ties told is r h q = sym (ap (λ (z : Ties). nearest_size z top x) is ∙ ap (nearest_size told top) i.is ∙ (omega arith))

    pub up_rounds : (ties : Ties) → ties ≡ Up → (t : Bool) → lt x (halfway n) ≡ t → cond t n (n + 1) ≡ nearest_size ties top x
    unfolding nearest_by a b
    up_rounds ties is t h =
        unclipped ties Up is (cond t n (n + 1)) (either t).0
        (up_nearest a b n (down_pos i.e) low_end high_end t (sym (below_value i.m i.e (2 * n + 1) 2 (lit< tt) (halfway n) half_value) ∙ rw i.is at h))

    pub down_rounds : (ties : Ties) → ties ≡ Down → (t : Bool) → lt (halfway n) x ≡ t → cond t (n + 1) n ≡ nearest_size ties top x
    unfolding nearest_by a b
    down_rounds ties is t h =
        unclipped ties Down is (cond t (n + 1) n) (either t).1
        (down_nearest a b n (down_pos i.e) low_end high_end t (sym (above_value i.m i.e (2 * n + 1) 2 (lit< tt) (halfway n) half_value) ∙ rw i.is at h))

-- The same of a double by the two tests that it has passed.
module _ (top : ℕ) (x : Float) (small : Small top) (above : lt (of_bits binary64 0) x ≡ true) (under : lt x (of_int binary64 (pos top)) ≡ true) where
  i : Inside top x
  i = inside top x small above under

  pub tested_range : T (lt (fin true 1 (pos 0)) x) × T (lt x (fin false 1 (pos 64)))
  tested_range = in_range top x small i

  module _ (n : ℕ) (is-n : n ≡ to_unsigned 64 x) where
    pub tested_less : n < top
    tested_less = n_less top x small i n is-n

    pub tested_up : (ties : Ties) → ties ≡ Up → (t : Bool) → lt x (halfway n) ≡ t → cond t n (n + 1) ≡ nearest_size ties top x
    tested_up = up_rounds top x small i n is-n

    pub tested_down : (ties : Ties) → ties ≡ Down → (t : Bool) → lt (halfway n) x ≡ t → cond t (n + 1) n ≡ nearest_size ties top x
    tested_down = down_rounds top x small i n is-n

-- ---- at the limit or above it, and not above 0

full : (ties : Ties) (a b top : ℕ) → 0 < b → top * b ≤ a → top ≤ nearest_by ties a b
unfolding nearest_by nearest nearest_down
full Up a b top B h = (le-div_iff_mul-le {k = 2 * b} (omega arith)).1 (omega arith)
full Down a b top B h = (le-div_iff_mul-le {k = 2 * b} (omega arith)).1 (omega arith)

pub at_top : (ties : Ties) (top : ℕ) (x : Float) → Small top → lt (of_bits binary64 0) x ≡ true → lt x (of_int binary64 (pos top)) ≡ false → top ≡ nearest_size ties top x
unfolding nearest_size
at_top ties top nan small p q = absurd (unfold lt of_bits in false≢true p)
at_top ties top (inf true) small p q = absurd (unfold lt of_bits in false≢true p)
at_top ties top (inf false) small p q = refl
at_top ties top (fin true m e) small p q = absurd (unfold lt of_bits in false≢true p)
at_top ties top (fin false m e) small p q =
    let k : top * down e ≤ m * up e * 1 = ltb-false _ _ (sym (below_value m e top 1 (lit< tt) (of_int binary64 (pos top)) (whole_value top small)) ∙ q) in
    let h : top ≤ nearest_by ties (m * up e) (down e) = full ties (m * up e) (down e) top (down_pos e) (omega arith) in
    omega arith

none : (ties : Ties) (a b : ℕ) → 0 < b → a ≡ 0 → nearest_by ties a b ≡ 0
unfolding nearest_by nearest nearest_down
none Up a b B h = div-eq_of_lt-le (2 * b) (omega arith) (omega arith)
none Down a b B h = div-eq_of_lt-le (2 * b) (omega arith) (omega arith)

pub at_zero : (ties : Ties) (top : ℕ) (x : Float) → lt (of_bits binary64 0) x ≡ false → 0 ≡ nearest_size ties top x
unfolding nearest_size lt of_bits
at_zero ties top nan p = refl
at_zero ties top (inf true) p = refl
at_zero ties top (inf false) p = absurd (true≢false p)
at_zero ties top (fin true m e) p = refl
at_zero ties top (fin false m e) p =
    let k : m * up e * 1 ≤ 0 * 1 * down e = ltb-false (0 * 1 * down e) (m * up e * 1) p in
    let h : nearest_by ties (m * up e) (down e) ≡ 0 = none ties (m * up e) (down e) (down_pos e) (omega arith) in
    omega arith

-- ---- the sign
module _ (low high : ℕ) where
  the_least : {r : ℕ} → r ≡ 0 → min low r ≡ 0
  the_least h = omega arith

  pub of_negative : (x : Float) → lt x (of_bits binary64 0) ≡ true → neg_ℤ (pos (nearest_size Down low (neg x))) ≡ nearest_whole low high x
  unfolding nearest_whole nearest_size nearest_by neg lt of_bits
  of_negative nan h = absurd (false≢true h)
  of_negative (inf true) h = refl
  of_negative (inf false) h = absurd (false≢true h)
  of_negative (fin true m e) h = refl
  of_negative (fin false m e) h = let k : m * up e * 1 < 0 * 1 * down e = ltb-true _ _ h in absurd (omega arith)

  pub of_other : (x : Float) → lt x (of_bits binary64 0) ≡ false → pos (nearest_size Up high x) ≡ nearest_whole low high x
  unfolding nearest_whole nearest_size nearest_by lt of_bits
  of_other nan h = refl
  of_other (inf true) h = absurd (true≢false h)
  of_other (inf false) h = refl
  of_other (fin false m e) h = refl
  of_other (fin true m e) h =
      let k : m * up e * 1 + 0 * 1 * down e ≤ 0 = ltb-false _ _ h in
      let z : nearest_by Down (m * up e) (down e) ≡ 0 = none Down (m * up e) (down e) (down_pos e) (omega arith) in
      ap (λ (n : ℕ). neg_ℤ (pos n)) (sym (the_least z))

-- ---- a finite double lies between the infinities
pub below_infinity : (x : Float) → lt x (div binary64 (of_bits binary64 0x3ff0_0000_0000_0000) (of_bits binary64 0)) ≡ true
    → lt (neg (div binary64 (of_bits binary64 0x3ff0_0000_0000_0000) (of_bits binary64 0))) x ≡ finite x
unfolding lt neg div of_bits
below_infinity nan h = refl
below_infinity (inf true) h = refl
below_infinity (inf false) h = absurd (false≢true h)
below_infinity (fin s m e) h = refl

pub not_below_infinity : (x : Float) → lt x (div binary64 (of_bits binary64 0x3ff0_0000_0000_0000) (of_bits binary64 0)) ≡ false → false ≡ finite x
unfolding lt div of_bits
not_below_infinity nan h = refl
not_below_infinity (inf s) h = refl
not_below_infinity (fin s m e) h = absurd (true≢false h)

-- ---- std's word for a finite double, and the logic's
pub finite_is : (x : Float) → float_is_finite x ≡ finite x
unfolding float_is_finite
finite_is nan = refl
finite_is (inf s) = refl
finite_is (fin s m e) = refl

-- ---- the bounds

opposite_size : (n k : ℕ) → n < k → mag (neg_ℤ (pos n)) < k
opposite_size zero k h = h
opposite_size (suc n) k h = omega arith

pub whole-size : (low high k : ℕ) → low < k → high < k → (x : Float) → mag (nearest_whole low high x) < k
unfolding nearest_whole
whole-size low high k l h nan = omega arith
whole-size low high k l h (inf true) = opposite_size low k l
whole-size low high k l h (inf false) = h
whole-size low high k l h (fin true m e) = opposite_size (min low (nearest_down (m * up e) (down e))) k (omega arith)
whole-size low high k l h (fin false m e) = omega arith

-- Clipped at 0 it is not negative.
pub whole_natural : (high : ℕ) (x : Float) → T (non_neg (nearest_whole 0 high x)) × (nat_abs (nearest_whole 0 high x) ≤ high)
unfolding nearest_whole
whole_natural high nan = (tt, omega arith)
whole_natural high (inf true) = (tt, omega arith)
whole_natural high (inf false) = (tt, omega arith)
whole_natural high (fin true m e) = rw (zero-min (nearest_down (m * up e) (down e))) (tt, omega arith)
whole_natural high (fin false m e) = (tt, omega arith)
