-- Tints: a colour of three channels as a pixel of 12-bit e-sRGB (rules, section 11).
-- Assumes nothing.
use Rattle.std.specs.Prelude.{ℕ, ◌^◌, cond, not, ℤ, pos, nat_abs, Float, Option, None, Some, Result, Ok, Err}
use Rattle.std.specs.Float.{binary64}
use Rattle.std.specs.Float.Ieee.{add, mul, of_int}
use Rattle.std.specs.Float.Ieee.Scale.{finite}
use Rattle.doubles.specs.Doubles.{nearest_whole}
use Rattle.refusal.specs.declared.Fault.{Fault}
use Rattle.refusal.specs.Refusals.{number_of}
use Rattle.samples.specs.declared.Pixel.{Pixel}
use Rattle.samples.specs.Samples.{pixel}
use Rattle.esrgb.specs.Depths.{greatest, offset, scale}
use Rattle.esrgb.specs.Codes.{from_srgb}
use Rattle.linear.specs.Operations.{pixel_of_light}
use Rattle.tint.specs.declared.Channels.{Channels}
use Rattle.tint.specs.declared.Tint.{Tint}
use Rattle.tint.specs.declared.Tint.TheVariants.{Code, Nonlinear, Light}

-- Rule 11.1: three channels.
abbrev pub channels : Float → Float → Float → Channels
channels red green blue = record { red = red; green = green; blue = blue }

-- Rule 11.3: `times` and `plus` give the double nearest to the product and to the sum, ties to the even one, and an infinity where
-- that is too large for a double.
abbrev pub times : Float → ℕ → Float
times x n = mul binary64 x (of_int binary64 (pos n))

abbrev pub plus : Float → ℕ → Float
plus x n = add binary64 x (of_int binary64 (pos n))

-- Rule 11.4: S times a nonlinear number and the offset on top, as the nearest of the codes, ties upward. It is not negative, so that
-- nat_abs only makes it a number of ℕ.
unfoldable pub nonlinear_code : Float → ℕ
nonlinear_code x = nat_abs (nearest_whole 0 (greatest 12) (plus (times x (scale 12)) (offset 12)))

-- Rule 11.5: a number of light in whole millionths, ties upward, with a limit on either side.
abbrev pub light_limit : ℕ
light_limit = 2000000

unfoldable pub light_number : Float → ℤ
light_number x = nearest_whole light_limit light_limit (times x (10 ^ 6))

-- The pixel of a tint: by rule 1.6 for 8-bit values (11.2), by 11.4, and by 11.5 and 6.3.
unfoldable pub tint_pixel : Tint → Pixel
tint_pixel (Code red green blue) = pixel (from_srgb 12 red) (from_srgb 12 green) (from_srgb 12 blue)
tint_pixel (Nonlinear c) = pixel (nonlinear_code c.red) (nonlinear_code c.green) (nonlinear_code c.blue)
tint_pixel (Light c) = pixel_of_light (light_number c.red) (light_number c.green) (light_number c.blue)

-- Rule 11.6: the first channel that is not finite. 8-bit values have none.
abbrev pub first_fault : Channels → Option ℕ
first_fault c =
    cond (not (finite c.red)) (Some 0)
    (cond (not (finite c.green)) (Some 1)
    (cond (not (finite c.blue)) (Some 2)
    None))

unfoldable pub tint_fault : Tint → Option ℕ
tint_fault (Code red green blue) = None
tint_fault (Nonlinear c) = first_fault c
tint_fault (Light c) = first_fault c

-- What is said of a tint: its pixel, or a refusal's number and the channel at fault. No tint is refused without a channel.
pub data TintSaid : Type 0 where
  gives : Pixel → TintSaid
  refuses_at : ℕ → ℕ → TintSaid
  refuses : ℕ → TintSaid

abbrev pub refused_said : ℕ → Option ℕ → TintSaid
refused_said number None = refuses number
refused_said number (Some channel) = refuses_at number channel

abbrev pub tint_said : Result Pixel Fault → TintSaid
tint_said (Ok p) = gives p
tint_said (Err f) = refused_said (number_of f.refusal) f.place

abbrev pub fault_or : Option ℕ → Pixel → TintSaid
fault_or (Some k) p = refuses_at 17 k
fault_or None p = gives p

unfoldable pub tint_says : Tint → TintSaid
tint_says t = fault_or (tint_fault t) (tint_pixel t)
