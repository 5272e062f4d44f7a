-- To e-sRGB: a channel's start, luma and shares of the chromas are the definition's code, for any row of B9 and at any depth.
-- Assumes nothing.
use mathlib.Core.Path.{◌≡◌, sym, ap, subst, ◌∙◌}
use Prim.Native.Nat.{ℕ, ◌+◌, ◌-◌, ◌*◌, ◌/◌, ◌^◌, ◌≤◌, ◌<◌, min}
use native.Mathlib.Omega.{arith}
use native.Mathlib.Nat.{mul-add, mul_assoc, mul_comm, mul_left_comm, mul-le-mul, mul-le-mul_left, mul-le-mul_right, le_of_mul-le-mul_left}
use Rattle.numbers.proofs.Shares.{share-of, Counted, counted, both}
use Rattle.esrgb.specs.Depths.{greatest, offset, scale}
use Rattle.esycc.specs.Esycc.{code, Ycc, adding, taking}
use Rattle.esycc.specs.HowCounted.{Ratio, most_middle, back_unit, back_lift, back_allowance, back_start, BackTerms, share_by, rows_by, with_chroma, less_chroma, most_luma, most_chroma, most_share, most_taken, most_luma_share, FewRows}
use Rattle.esycc.proofs.Room.{product_fits}
use Rattle.esycc.proofs.Coded.{coded}

-- A part of p in units, and two parts together.
part : (q p unit weight x : ℕ) → 0 < q → Counted q unit (p * (weight * x)) (weight * p * unit / q * x) x
part q p unit weight x some =
    let e : weight * p * x ≡ p * (weight * x) = ap (λ (y : ℕ). y * x) (mul_comm weight p) ∙ mul_assoc p weight x in
    subst (λ (y : ℕ). Counted q unit y (weight * p * unit / q * x) x) e (counted (share-of q (weight * p) unit some) x)

parts :
    {q unit f g x y : ℕ} (p u v : ℕ) → Counted q unit (p * u) f x → Counted q unit (p * v) g y → Counted q unit (p * (u + v)) (f + g) (x + y)
parts {q} {unit} {f} {g} {x} {y} p u v a b = subst (λ (e : ℕ). Counted q unit e (f + g) (x + y)) (sym (mul-add p u v)) (both a b)

-- A share is at most its weight over 312, in units.
share_over : (p q unit weight most : ℕ) → 1 ≤ p → 312 * p ≤ q → weight * unit ≤ 312 * most → weight * p * unit / q ≤ most
share_over p q unit weight most some ratio h =
    let low : q * (weight * p * unit / q) ≤ weight * p * unit = (share-of q (weight * p) unit (omega arith)).low in
    let whole : weight * p * unit ≡ p * (weight * unit) = ap (λ (x : ℕ). x * unit) (mul_comm weight p) ∙ mul_assoc p weight unit in
    let over : p * (weight * unit) ≤ p * (312 * most) = mul-le-mul_left p h in
    let more : 312 * p * most ≤ q * most = mul-le-mul_right most ratio in
    let times : p * (312 * most) ≡ 312 * p * most = omega (arith, mul_left_comm p 312 most, mul_assoc 312 p most) in
    le_of_mul-le-mul_left {k = q} (omega (arith, low, whole, over, more, times)) (omega arith)

pub share_most : {p q grey : ℕ} (weight most : ℕ) → BackTerms p q grey → weight * back_unit ≤ 312 * most → share_by weight p q ≤ most
share_most {p} {q} weight most t h = share_over p q back_unit weight most t.some t.ratio h

-- The greatest of the denominators, the most that the weights of both chromas are, and the most that they take away.
abbrev pub most_back_bottom : ℕ
most_back_bottom = 341250

abbrev both_weights : ℕ
both_weights = 35443

abbrev most_down : ℕ
most_down = 5000000000

-- What luma and the chromas can be, and the ratio of the scale to what stands for 1.
pub record Within (n p h : ℕ) (v : Ycc) : Type 0 where
  pub ratio : Ratio (scale n) (10000 * v.one) p (2 * h)
  pub terms : BackTerms p (2 * h) v.grey
  pub few : 2 * h ≤ most_back_bottom
  pub offsets : offset n ≤ back_lift
  pub y-most : v.y ≤ most_luma
  pub cb-most : v.cb ≤ most_chroma
  pub cr-most : v.cr ≤ most_chroma

module _ {n p h : ℕ} {v : Ycc} (w : Within n p h v) (a b : ℕ) where
  abbrev share_of : ℕ → ℕ
  share_of weight = share_by weight p (2 * h)

  some : 0 < 2 * h
  some = omega (arith, w.terms.some, w.terms.ratio)

  -- The shares of two chromas, or of grey twice; and luma with them.
  two : (x y : ℕ) → Counted (2 * h) back_unit (p * (a * x + b * y)) (share_of a * x + share_of b * y) (x + y)
  two x y = parts p (a * x) (b * y) (part (2 * h) p back_unit a x some) (part (2 * h) p back_unit b y some)

  three :
      (x y : ℕ)
      → Counted (2 * h) back_unit (p * (10000 * v.y + (a * x + b * y))) (share_of 10000 * v.y + (share_of a * x + share_of b * y)) (v.y + (x + y))
  three x y = parts p (10000 * v.y) (a * x + b * y) (part (2 * h) p back_unit 10000 v.y some) (two x y)

  mixed : a + b ≤ both_weights → (x y : ℕ) → x ≤ most_chroma → y ≤ most_chroma → a * x + b * y ≤ most_down
  mixed few x y hx hy =
      let first : a * x ≤ a * most_chroma = mul-le-mul_left a hx in
      let second : b * y ≤ b * most_chroma = mul-le-mul_left b hy in
      omega arith

  -- What is taken away does not reach below 0.
  below : (down : ℕ) → down ≤ most_down → p * down ≤ 2 * h * back_lift
  below down hd =
      let most : p * down ≤ p * most_down = mul-le-mul_left p hd in
      omega (arith, w.terms.ratio)

  within-start : {exact units short : ℕ} → Counted (2 * h) back_unit exact units short → exact ≤ 2 * h * back_lift → units ≤ back_lift * back_unit
  within-start {exact} {units} c fits =
      let most : back_unit * exact ≤ back_unit * (2 * h * back_lift) = mul-le-mul_left back_unit fits in
      le_of_mul-le-mul_left {k = 2 * h} (omega (arith, c.low, mul_assoc (2 * h) back_lift back_unit, mul_comm back_unit (2 * h * back_lift))) some

  -- Chromas and grey, as they stand in a sum.
  abbrev greys : ℕ
  greys = share_of a * v.grey + share_of b * v.grey

  abbrev chromas : ℕ
  chromas = share_of a * v.cb + share_of b * v.cr

  sum_coded :
      (up down : ℕ) {more less s e : ℕ} (total : ℕ)
      → Counted (2 * h) back_unit (p * up) more s → Counted (2 * h) back_unit (p * down) less e
      → s ≤ back_allowance → e ≤ 2 * most_chroma → down ≤ most_down → total ≡ back_start + more - less
      → min (greatest n) (total / back_unit - (back_lift - offset n)) ≡ code (greatest n) (offset n) (scale n) up down (10000 * v.one)
  sum_coded up down {more} {less} {s} {e} total m l hs he hd is-total =
      let lifts : back_lift - offset n + offset n ≡ back_lift = omega (arith, w.offsets) in
      let short : 2 * h * (back_allowance + e) ≤ most_back_bottom * (back_allowance + 2 * most_chroma) =
      product_fits (2 * h) (back_allowance + e) most_back_bottom (back_allowance + 2 * most_chroma) w.few (omega arith) in
      let fits : p * down ≤ 2 * h * (back_lift - offset n + offset n) = rw lifts (below down hd) in
      ap (λ (x : ℕ). min (greatest n) (x / back_unit - (back_lift - offset n))) is-total
      ∙ ap (λ (x : ℕ). min (greatest n) ((x * back_unit + back_unit / 2 + back_allowance + more - less) / back_unit - (back_lift - offset n))) (sym lifts)
      ∙ coded w.ratio (2 ^ 37) (back_lift - offset n) (offset n) back_allowance (greatest n) up down m l (omega (arith, some)) hs (omega arith) fits

  pub adding_coded :
      a + b ≤ both_weights
      → min (greatest n) (with_chroma (back_start - greys) (share_of 10000 * v.y) chromas - (back_lift - offset n)) ≡ adding n v a b
  unfolding with_chroma adding
  adding_coded few =
      let down : a * v.grey + b * v.grey ≤ most_down = mixed few v.grey v.grey (omega (arith, w.terms.middle)) (omega (arith, w.terms.middle)) in
      let under : greys ≤ back_lift * back_unit = within-start (two v.grey v.grey) (below (a * v.grey + b * v.grey) down) in
      sum_coded (10000 * v.y + (a * v.cb + b * v.cr)) (a * v.grey + b * v.grey) (back_start - greys + share_of 10000 * v.y + chromas)
      (three v.cb v.cr) (two v.grey v.grey) (omega (arith, w.y-most, w.cb-most, w.cr-most)) (omega (arith, w.terms.middle)) down (omega arith)

  pub taking_coded :
      a + b ≤ both_weights
      → min (greatest n) (less_chroma (back_start + greys) (share_of 10000 * v.y) chromas - (back_lift - offset n)) ≡ taking n v a b
  unfolding less_chroma taking
  taking_coded few =
      let down : a * v.cb + b * v.cr ≤ most_down = mixed few v.cb v.cr w.cb-most w.cr-most in
      sum_coded (10000 * v.y + (a * v.grey + b * v.grey)) (a * v.cb + b * v.cr) (back_start + greys + share_of 10000 * v.y - chromas)
      (three v.grey v.grey) (two v.cb v.cr) (omega (arith, w.y-most, w.terms.middle)) (omega (arith, w.cb-most, w.cr-most)) down (omega arith)

-- The rows have room for their sums.
pub rows_few : {p q grey : ℕ} → BackTerms p q grey → FewRows (rows_by p q grey)
rows_few {p} {q} {grey} t =
    let share : (weight : ℕ) → weight ≤ 14282 → share_by weight p q ≤ most_taken = λ weight h. share_most weight most_taken t (omega arith) in
    let green-cb : share_by 6882 p q * grey ≤ most_taken * most_middle = mul-le-mul (share 6882 (omega arith)) t.middle in
    let green-cr : share_by 14282 p q * grey ≤ most_taken * most_middle = mul-le-mul (share 14282 (omega arith)) t.middle in
    record {
      luma = share_most 10000 most_luma_share t (omega arith);
      red = record { cb = share_most 0 most_share t (omega arith); cr = share_most 28040 most_share t (omega arith) };
      red-start = omega arith;
      green = record { cb = share 6882 (omega arith); cr = share 14282 (omega arith) };
      green-start = omega arith;
      green-most = omega arith;
      blue = record { cb = share_most 35440 most_share t (omega arith); cr = share_most 3 most_share t (omega arith) };
      blue-start = omega arith;
    }
