-- What a pixel buffer holds: the forms of rule 4.1.
-- Assumes nothing.
use Rattle.std.specs.Prelude.{ℕ, ◌/◌, Bool, true, false, List, length}
use Rattle.samples.specs.declared.Coding.{Coding}
use Rattle.samples.specs.declared.Coding.TheVariants.{Bytes, Codes}
use Rattle.samples.specs.Samples.{pixel_size}
use Rattle.samples.specs.Faults.{wide_coding}
use Rattle.esrgb.specs.Depths.{offered, greatest}

-- 8-bit sRGB, e-sRGB of a depth, luma and chroma of a depth, e-sYCC of a depth, or 8-bit sYCC.
pub data Form : Type 0 where
  srgb : Form
  esrgb : ℕ → Form
  luma_chroma : ℕ → Form
  esycc : ℕ → Form
  sycc : Form

-- A row for each form: the bits of its samples; what they may be, and whether a chroma of 0 is at fault (rule 4.3); whether its depth is
-- offered (rule 4.2, 9).
pub record FormRow : Type 0 where
  pub bits : ℕ
  pub coding : Coding
  pub offers : Bool

abbrev pub form_row : Form → FormRow
form_row srgb = record { bits = 8; coding = Bytes; offers = true }
form_row (esrgb n) = record { bits = n; coding = Codes (greatest n) false; offers = offered n }
form_row (luma_chroma n) = record { bits = n; coding = Codes (greatest n) true; offers = offered n }
form_row (esycc n) = record { bits = n; coding = Codes (greatest n) false; offers = offered n }
form_row sycc = record { bits = 8; coding = Bytes; offers = true }

abbrev pub bits_of : Form → ℕ
bits_of form = (form_row form).bits

abbrev pub coding_of : Form → Coding
coding_of form = (form_row form).coding

abbrev pub offers_form : Form → Bool
offers_form form = (form_row form).offers

abbrev pub wide_form : Form → Bool
wide_form form = wide_coding (coding_of form)

-- How many pixels a buffer of a form holds.
abbrev pub pixels_in : Form → List ℕ → ℕ
pixels_in form bytes = length bytes / pixel_size (wide_form form)
