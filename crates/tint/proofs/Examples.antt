-- The examples of tints (rule 10.8), as facts about the definitions.
-- Assumes nothing.
use mathlib.Core.Path.{◌≡◌, refl}
use mathlib.Core.Bool.{true, false}
use lib.IntN.{pos, negsuc}
use lib.Ieee.{nan, inf, fin, neg, add, mul, div, of_int}
use Rattle.numbers.specs.Rounding.{nearest, nearest_down}
use Rattle.doubles.specs.Doubles.{nearest_whole, double}
use Rattle.samples.specs.Samples.{pixel}
use Rattle.esrgb.specs.Codes.{from_srgb}
use Rattle.transfer.specs.Level.{level_of_light, code_of_light}
use Rattle.transfer.proofs.Examples.{code-examples}
use Rattle.tint.specs.declared.Tint.TheVariants.{Code, Nonlinear, Light}
use Rattle.tint.specs.Tints.{channels, nonlinear_code, light_number, tint_pixel, tint_fault, gives, refuses_at, tint_says}

pub code_example : tint_says (Code 0 128 255) ≡ gives (pixel 1536 2560 3576)
unfolding tint_says tint_fault tint_pixel from_srgb
code_example = refl

-- The second line is about the two roundings: one for both would give 6 for red, and none 1,536 for green. The last: numbers whose
-- product is too large for a double, and the least double above 0.
pub nonlinear_examples :
    (tint_says (Nonlinear (channels (double 0 1) (double 1 1) (double 5 4))) ≡ gives (pixel 1536 3576 4086))
    × (tint_says (Nonlinear (channels (neg (double 3059 4080)) (double 1 4080) (neg (double 0 1)))) ≡ gives (pixel 7 1537 1536))
    × (tint_says (Nonlinear (channels (fin false 1 (pos 1023)) (fin true 1 (pos 1023)) (fin false 1 (negsuc 1073)))) ≡ gives (pixel 4095 0 1536))
unfolding tint_says tint_fault tint_pixel nonlinear_code nearest_whole nearest nearest_down of_int div mul add neg
nonlinear_examples = (refl, refl, refl)

pub light_examples_lem : tint_says (Light (channels (double 313 100000) (double 3131 1000000) (double 0 1))) ≡ gives (pixel 1618 1619 1536)
unfolding tint_says tint_fault tint_pixel light_number nearest_whole nearest nearest_down of_int div mul level_of_light code_of_light
light_examples_lem = cc code-examples.1

pub refused-examples :
    (tint_says (Nonlinear (channels (double 1 1) (inf true) nan)) ≡ refuses_at 17 1)
    × (tint_says (Light (channels nan (double 1 1) (inf false))) ≡ refuses_at 17 0)
unfolding tint_says tint_fault of_int div
refused-examples = (refl, refl)
