-- What the operations on buffers answer and write (rule 6.7).
-- Assumes nothing.
use Rattle.std.specs.Prelude.{ℕ, ◌/◌, true, false, cond, not, List, map, ltb, ℤ, Result, Ok, Err}
use Rattle.refusal.specs.declared.Refusal.{Refusal}
use Rattle.refusal.specs.Refusals.{number_of}
use Rattle.refusal.specs.Answers.{Said, accepted}
use Rattle.samples.specs.declared.Coding.TheVariants.{Codes}
use Rattle.samples.specs.declared.Pixel.{Pixel}
use Rattle.samples.specs.Samples.{pixel, two_by_two, bytes_of}
use Rattle.samples.specs.Faults.{in_order, source_says}
use Rattle.esrgb.specs.Depths.{offered, greatest}
use Rattle.transfer.specs.Light.{light_of_code}
use Rattle.transfer.specs.Level.{offers_codes, code_of_light}

-- Codes to light refuses as Convert does, in its order. The source is bytes, two to a sample, and the destination has `room`
-- numbers, one to a sample.
abbrev pub codes_to_light_says : ℕ → List ℕ → ℕ → Said
codes_to_light_says n src room = source_says (offered n) (Codes (greatest n) false) false src room

-- What it writes if it accepts: the light of each sample.
abbrev pub codes_to_light : ℕ → List ℕ → List ℤ
codes_to_light n src = map (light_of_code n) (two_by_two src)

-- Light to codes does too, and no number is at fault. The source is so many numbers, one to a sample, and the destination has `room`
-- bytes, two to a sample.
abbrev pub light_to_codes_says : ℕ → ℕ → ℕ → Said
light_to_codes_says n numbers room = in_order (offers_codes n) false true numbers room (accepted (numbers / 3))

-- What it writes if it accepts: the code of each light, two bytes each.
abbrev pub light_to_codes : ℕ → List ℤ → List ℕ
light_to_codes n src = bytes_of true (map (code_of_light n) src)

-- A single sample: what it gives, or the refusal of rule 6.7 that one sample can have.
pub data Single (A : Type 0) : Type 0 where
  gives : A → Single A
  refuses : ℕ → Single A

abbrev pub light_says : ℕ → ℕ → Single ℤ
light_says n code = cond (not (offered n)) (refuses 9) (cond (ltb (greatest n) code) (refuses 12) (gives (light_of_code n code)))

abbrev pub single_said : {A : Type 0} → Result A Refusal → Single A
single_said (Ok x) = gives x
single_said (Err r) = refuses (number_of r)

abbrev pub light_said : Result ℤ Refusal → Single ℤ
light_said found = single_said found

abbrev pub code_says : ℕ → ℤ → Single ℕ
code_says n light = cond (not (offers_codes n)) (refuses 9) (gives (code_of_light n light))

abbrev pub code_said : Result ℕ Refusal → Single ℕ
code_said found = single_said found

-- Three lights as a pixel of 12-bit codes.
abbrev pub pixel_of_light : ℤ → ℤ → ℤ → Pixel
pixel_of_light red green blue = pixel (code_of_light 12 red) (code_of_light 12 green) (code_of_light 12 blue)
