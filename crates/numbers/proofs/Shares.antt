-- Shares of numbers, counted in units by factors that are rounded down: what is added and what is taken away makes the exact quotient to
-- the nearest, as long as the factors are off by less than decides a rounding. Assumes nothing.
use mathlib.Core.Path.{◌≡◌, sym, ap, ◌∙◌}
use Prim.Native.Nat.{ℕ, ◌+◌, ◌-◌, ◌*◌, ◌/◌, ◌%◌, ◌≤◌, ◌<◌, min}
use native.Mathlib.Omega.{arith}
use native.Mathlib.Decide.{dec_le}
use native.Mathlib.Nat.{le_trans, lt_of_lt_of_le, mul_assoc, mul_comm, mul_left_comm, mul-sub, mul-add, mul-le-mul_left, mul-le-mul_right, le_of_mul-le-mul_left, lt_of_mul-lt-mul_left, add-mul, mod-lt, div-add-mod, div-eq_of_lt, div-eq_of_lt-le, div-lt_iff_lt-mul, mul-add-div, mul-div-mul_left}
use Rattle.numbers.specs.Rounding.{nearest, clipped_to}

-- P / unit and E / den are the same whole number, if P units are at least E denths, and not as much as E + 1.
same_quotient : (unit den P E : ℕ) → 0 < den → unit * E ≤ den * P → den * P < unit * (E + 1) → P / unit ≡ E / den
same_quotient unit den P E some low high =
    let q : ℕ = E / den in
    let split : den * q + E % den ≡ E = div-add-mod E den in
    let rest : E % den < den = mod-lt E some in
    let under : unit * (den * q) ≤ unit * E = mul-le-mul_left unit (omega arith) in
    let over : unit * (E + 1) ≤ unit * (den * (q + 1)) = mul-le-mul_left unit (omega (arith, mul-add den q 1)) in
    div-eq_of_lt-le unit
    (rw (mul_comm q unit) (le_of_mul-le-mul_left {k = den} (rw (mul_left_comm den unit q) (le_trans under low)) some))
    (rw (mul_comm (q + 1) unit) (lt_of_mul-lt-mul_left den (rw (mul_left_comm den unit (q + 1)) (lt_of_lt_of_le high over))))

-- The factor is weight / den in units, rounded down.
pub record Share (den weight unit factor : ℕ) : Type 0 where
  pub low : den * factor ≤ weight * unit
  pub near : weight * unit ≤ den * factor + den

pub share-of : (den weight unit : ℕ) → 0 < den → Share den weight unit (weight * unit / den)
share-of den weight unit some =
    let split : den * (weight * unit / den) + weight * unit % den ≡ weight * unit = div-add-mod (weight * unit) den in
    let rest : weight * unit % den < den = mod-lt (weight * unit) some in
    record { low = omega arith; near = omega arith }

-- What is counted in units is the exact share, and at most so many units too small.
pub record Counted (den unit exact units short : ℕ) : Type 0 where
  pub low : den * units ≤ unit * exact
  pub near : unit * exact ≤ den * units + den * short

-- A share of x, and two shares together.
pub counted : {den weight unit factor : ℕ} → Share den weight unit factor → (x : ℕ) → Counted den unit (weight * x) (factor * x) x
counted {den} {weight} {unit} {factor} s x =
    let units : weight * unit * x ≡ unit * (weight * x) = ap (λ (y : ℕ). y * x) (mul_comm weight unit) ∙ mul_assoc unit weight x in
    record {
      low = omega (arith, mul-le-mul_right x s.low, mul_assoc den factor x, units);
      near = omega (arith, mul-le-mul_right x s.near, add-mul (den * factor) den x, mul_assoc den factor x, units);
    }

pub both :
    {den unit v w f g x y : ℕ} → Counted den unit v f x → Counted den unit w g y → Counted den unit (v + w) (f + g) (x + y)
both {den} {unit} {v} {w} {f} {g} {x} {y} a b =
    record {
      low = omega (arith, a.low, b.low, mul-add den f g, mul-add unit v w);
      near = omega (arith, a.near, b.near, mul-add den f g, mul-add unit v w, mul-add den x y);
    }

turned : (x y z : ℕ) → x * (y * z) ≡ z * (x * y)
turned x y z = sym (mul_assoc x y z) ∙ mul_comm (x * y) z

-- What is added and what is taken away, counted in units, make the exact sum to the nearest. Den and unit are even, h and g their halves.
-- The sum stands so much too high as the lift, and the allowance makes up for factors that are rounded down.
module _ (h g lift allowance : ℕ) {up down more less d e : ℕ} (a : Counted (2 * h) (2 * g) up more d) (b : Counted (2 * h) (2 * g) down less e) where
  pub rounded-sum :
      0 < h → d ≤ allowance → 2 * h * (allowance + e) < 2 * g → down ≤ 2 * h * lift
      → (lift * (2 * g) + g + allowance + more - less) / (2 * g) ≡ (2 * h * lift + h + up - down) / (2 * h)
  rounded-sum some few short fits =
      let A : ℕ = lift * (2 * g) + g in
      let B : ℕ = 2 * h * lift + h in
      let halves : 2 * h * g ≡ 2 * g * h = omega (arith, mul_assoc 2 h g, mul_assoc 2 g h, mul_comm h g) in
      let starts : 2 * h * A ≡ 2 * g * B =
      mul-add (2 * h) (lift * (2 * g)) g ∙ omega (arith, turned (2 * h) lift (2 * g), halves, mul-add (2 * g) (2 * h * lift) h) in
      let P : ℕ = A + allowance + more - less in
      let E : ℕ = B + up - down in
      let dP : 2 * h * P ≡ 2 * h * A + 2 * h * allowance + 2 * h * more - 2 * h * less =
      mul-sub (2 * h) (A + allowance + more) less ∙ ap (λ (x : ℕ). x - 2 * h * less) (mul-add (2 * h) (A + allowance) more ∙ ap (λ (x : ℕ). x + 2 * h * more) (mul-add (2 * h) A allowance)) in
      let uE : 2 * g * E ≡ 2 * g * B + 2 * g * up - 2 * g * down =
      mul-sub (2 * g) (B + up) down ∙ ap (λ (x : ℕ). x - 2 * g * down) (mul-add (2 * g) B up) in
      let shorts : 2 * h * d ≤ 2 * h * allowance = mul-le-mul_left (2 * h) few in
      let lasts : 2 * h * (allowance + e) ≡ 2 * h * allowance + 2 * h * e = mul-add (2 * h) allowance e in
      let downs : 2 * g * down ≤ 2 * g * B = mul-le-mul_left (2 * g) (omega arith) in
      let next : 2 * g * (E + 1) ≡ 2 * g * E + 2 * g = omega (arith, mul-add (2 * g) E 1) in
      same_quotient (2 * g) (2 * h) P E (omega arith)
      (omega (arith, a.near, b.low, dP, uE, starts, shorts))
      (omega (arith, a.low, b.near, dP, uE, starts, lasts, short, downs, next))

-- To the nearest over an even number: half of it is added first.
pub nearest-even : (h y : ℕ) → nearest y (2 * h) ≡ (y + h) / (2 * h)
unfolding nearest
nearest-even h y = ap (λ (z : ℕ). z / (2 * (2 * h))) (omega arith) ∙ mul-div-mul_left (y + h) (2 * h) (omega arith)

-- (2h lift + h + up − down) / 2h, less a part of the lift, is the quotient to the nearest with what is left of the lift.
lifted :
    (h low grey up down : ℕ) → 0 < h → down ≤ 2 * h * (low + grey)
    → (2 * h * (low + grey) + h + up - down) / (2 * h) - low ≡ nearest (up + grey * (2 * h) - down) (2 * h)
lifted h low grey up down some fits =
    let split : 2 * h * (low + grey) ≡ 2 * h * low + grey * (2 * h) = omega (arith, mul-add (2 * h) low grey, mul_comm grey (2 * h)) in
    elim (dec_le down (up + grey * (2 * h))) [
      | yes above ↦
          let x : ℕ = up + grey * (2 * h) - down in
          let sum : 2 * h * (low + grey) + h + up - down ≡ 2 * h * low + (x + h) = omega arith in
          let q : (2 * h * (low + grey) + h + up - down) / (2 * h) ≡ low + (x + h) / (2 * h) = ap (λ (y : ℕ). y / (2 * h)) sum ∙ mul-add-div (omega arith) low (x + h) in
          omega (arith, q, nearest-even h x)
      | no below ↦
          let none : up + grey * (2 * h) - down ≡ 0 = omega arith in
          let zero_is : nearest (up + grey * (2 * h) - down) (2 * h) ≡ 0 = nearest-even h (up + grey * (2 * h) - down) ∙ div-eq_of_lt (omega arith) in
          let next : (low + 1) * (2 * h) ≡ 2 * h * low + 2 * h = omega (arith, mul_comm (low + 1) (2 * h), mul-add (2 * h) low 1) in
          let least : (2 * h * (low + grey) + h + up - down) / (2 * h) < low + 1 = (div-lt_iff_lt-mul {k = 2 * h} (omega arith)).1 (omega arith) in
          omega (arith, zero_is, least)
    ]

-- So a sum that stands too high, in units, is clipped to the quotient's codes.
module _ (h g low grey allowance : ℕ) {up down more less d e : ℕ} (a : Counted (2 * h) (2 * g) up more d) (b : Counted (2 * h) (2 * g) down less e) where
  pub clipped-sum :
      (most : ℕ) → 0 < h → d ≤ allowance → 2 * h * (allowance + e) < 2 * g → down ≤ 2 * h * (low + grey)
      → min most (((low + grey) * (2 * g) + g + allowance + more - less) / (2 * g) - low) ≡ clipped_to most (up + grey * (2 * h)) down (2 * h)
  unfolding clipped_to
  clipped-sum most some few short fits =
      ap (λ (q : ℕ). min most (q - low)) (rounded-sum h g (low + grey) allowance a b some few short fits)
      ∙ ap (min most) (lifted h low grey up down some fits)

-- A quotient does not change where all its numbers are so many times as great.
pub clipped-times : (times most up down den : ℕ) → 1 ≤ times → clipped_to most (times * up) (times * down) (times * den) ≡ clipped_to most up down den
unfolding clipped_to nearest
clipped-times times most up down den some =
    let x : ℕ = up - down in
    let num : 2 * (times * up - times * down) + times * den ≡ times * (2 * x + den) =
    omega (arith, mul-sub times up down, mul-add times (2 * x) den, mul_left_comm times 2 x) in
    let twice : 2 * (times * den) ≡ times * (2 * den) = mul_left_comm 2 times den in
    ap (min most) (ap (λ (y : ℕ). y / (2 * (times * den))) num ∙ ap (λ (y : ℕ). times * (2 * x + den) / y) twice ∙ mul-div-mul_left (2 * x + den) (2 * den) some)
