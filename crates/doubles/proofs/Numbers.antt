-- What is rounded is a number, if only an infinite one: a product of finite doubles, and the sum of a number and a finite double.
-- Assumes nothing.
use Rattle.std.proofs.Common.{ℕ, zero, suc, ◌+◌, ◌-◌, ◌*◌, ◌^◌, Bool, true, false, cond, not, ◌&&◌, T, ltb}
use mathlib.Core.Bool.{beq}
use lib.Ieee.{Float, nan, inf, fin, Format, binary64, low, emax, prec, is_nan, unlike, up, down, units, odd, round, mul, add, sum}
use lib.Ieee.Fits.{round_is}
use lib.Ieee.Scale.{finite}

abbrev pub IsNumber : Float → Type 0
IsNumber x = T (not (is_nan x))

either : (b : Bool) (x y : Float) → IsNumber x → IsNumber y → IsNumber (cond b x y)
either true x y t u = t
either false x y t u = u

odd_number : (d : ℕ) (s : Bool) (q k l : ℕ) → IsNumber (odd d s q k l)
unfolding odd is_nan
odd_number d s zero k l = tt
odd_number d s (suc q) k l = tt

units_number : (f : Format) (s : Bool) (q k : ℕ) → IsNumber (units f s q k)
unfolding units is_nan
units_number f s q k = either (ltb (q * 2 ^ k) (2 ^ (low f + suc (emax f)))) _ _ (odd_number (suc (prec f)) s q k (low f)) tt

round_number : (f : Format) (s : Bool) (a c : ℕ) → IsNumber (round f s a c)
round_number f s a c = rw (round_is f s a c) (units_number f s _ _)

pub product_number : (x y : Float) → T (finite x) → T (finite y) → IsNumber (mul binary64 x y)
unfolding mul
product_number nan y t u = absurd t
product_number (inf s) y t u = absurd t
product_number (fin s m e) nan t u = absurd u
product_number (fin s m e) (inf r) t u = absurd u
product_number (fin s m e) (fin r n d) t u = round_number binary64 (unlike s r) (m * up e * (n * up d)) (down e * down d)

sum_by : (f : Format) (s : Bool) (a : ℕ) (t : Bool) (b c : ℕ) → IsNumber (sum f s a t b c)
unfolding sum
sum_by f s a t b c =
    either (beq s t) _ _ (round_number f s (a + b) c)
    (either (ltb a b) _ _ (round_number f t (b - a) c) (round_number f (s && ltb b a) (a - b) c))

pub sum_number : (x y : Float) → IsNumber x → T (finite y) → IsNumber (add binary64 x y)
unfolding add is_nan
sum_number nan y t u = absurd t
sum_number (inf s) nan t u = absurd u
sum_number (inf s) (inf r) t u = absurd u
sum_number (inf s) (fin r n d) t u = tt
sum_number (fin s m e) nan t u = absurd u
sum_number (fin s m e) (inf r) t u = absurd u
sum_number (fin s m e) (fin r n d) t u = sum_by binary64 s (m * up e * down d) r (n * up d * down e) (down e * down d)
