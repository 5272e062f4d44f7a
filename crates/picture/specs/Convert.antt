-- Convert (rules, section 4): what it answers, every byte that it leaves in the destination, and how many pixels it clips, for any source
-- and any destination.
-- Assumes nothing.
use Rattle.std.specs.Prelude.{ℕ, ◌*◌, Bool, false, ◌&&◌, ◌||◌, List, map, length, Result, Ok, Err}
use Rattle.numbers.specs.Counting.{how_many}
use Rattle.refusal.specs.declared.Fault.{Fault}
use Rattle.refusal.specs.Answers.{Said, said_by, leaves}
use Rattle.samples.specs.declared.Pixel.{Pixel}
use Rattle.samples.specs.Samples.{pixel_size, pixel, read, write}
use Rattle.samples.specs.Faults.{source_says}
use Rattle.esrgb.specs.Codes.{from_srgb, to_srgb, srgb_value, change_depth}
use Rattle.lumachroma.specs.LumaChroma.{to_luma_chroma, to_rgb}
use Rattle.esycc.specs.Esycc.{to_esycc, from_esycc}
use Rattle.esycc.specs.Sycc.{to_sycc, from_sycc}
use Rattle.picture.specs.declared.Conversion.{Conversion}
use Rattle.picture.specs.declared.Conversion.TheVariants.{FromSrgb, ToSrgb, ChangeDepth, ToLumaChroma, FromLumaChroma, ToEsycc, FromEsycc, ToSycc, FromSycc}
use Rattle.picture.specs.declared.Converted.{Converted}
use Rattle.picture.specs.Forms.{Form, srgb, esrgb, luma_chroma, esycc, sycc, coding_of, wide_form, pixels_in, offers_form}

-- Rule 4.1, a row for each conversion: what it reads, what it writes, what it does to one pixel, and which pixels it counts as clipped.
pub record Row : Type 0 where
  pub reads : Form
  pub writes : Form
  pub does : Pixel → Pixel
  pub clips : Pixel → Bool

abbrev pub each : (ℕ → ℕ) → Pixel → Pixel
each f p = pixel (f p.first) (f p.second) (f p.third)

-- Rule 4.6: e-sRGB to sRGB counts a pixel if one of its channels is clipped (rule 1.9); the others count none.
abbrev pub clipped : ℕ → Pixel → Bool
clipped n p = (to_srgb n p.first).clipped || (to_srgb n p.second).clipped || (to_srgb n p.third).clipped

abbrev pub none : Pixel → Bool
none p = false

abbrev pub row : Conversion → Row
row (FromSrgb n) = record { reads = srgb; writes = esrgb n; does = each (from_srgb n); clips = none }
row (ToSrgb n) = record { reads = esrgb n; writes = srgb; does = each (srgb_value n); clips = clipped n }
row (ChangeDepth n m) = record { reads = esrgb n; writes = esrgb m; does = each (change_depth n m); clips = none }
row (ToLumaChroma n) = record { reads = esrgb n; writes = luma_chroma n; does = to_luma_chroma n; clips = none }
row (FromLumaChroma n) = record { reads = luma_chroma n; writes = esrgb n; does = to_rgb n; clips = none }
row (ToEsycc n) = record { reads = esrgb n; writes = esycc n; does = to_esycc n; clips = none }
row (FromEsycc n) = record { reads = esycc n; writes = esrgb n; does = from_esycc n; clips = none }
row (ToSycc n) = record { reads = esrgb n; writes = sycc; does = to_sycc n; clips = none }
row (FromSycc n) = record { reads = sycc; writes = esrgb n; does = from_sycc n; clips = none }

abbrev pub source : Conversion → Form
source c = (row c).reads

abbrev pub target : Conversion → Form
target c = (row c).writes

abbrev pub pixel_of : Conversion → Pixel → Pixel
pixel_of c = (row c).does

-- Rule 4.2, 9: every depth named must be offered.
abbrev pub offers : Conversion → Bool
offers c = offers_form (source c) && offers_form (target c)

-- The length that the destination of a source needs (rule 4.2, 11).
abbrev pub needed : Conversion → List ℕ → ℕ
needed c src = pixel_size (wide_form (target c)) * pixels_in (source c) src

-- The answer to a source and a destination of `room` bytes.
abbrev pub convert_says : Conversion → List ℕ → ℕ → Said
convert_says c src room = source_says (offers c) (coding_of (source c)) (wide_form (target c)) src room

-- Rule 4.5: the source's pixels, converted one by one.
unfoldable pub converted : Conversion → List ℕ → List ℕ
converted c src = write (wide_form (target c)) (map (pixel_of c) (read (wide_form (source c)) src))

-- The destination afterwards (rules 4.4 and 4.5).
abbrev pub convert_bytes : Conversion → List ℕ → List ℕ → List ℕ
convert_bytes c src dst = leaves (convert_says c src (length dst)) (converted c src) dst

-- Rule 4.6: how many pixels of a source are clipped; and how many of them a call gives, which is none if it is refused.
abbrev pub clipped_in : Conversion → List ℕ → ℕ
clipped_in c src = how_many (row c).clips (read (wide_form (source c)) src)

abbrev pub convert_clips : Conversion → List ℕ → ℕ → ℕ
convert_clips c src room = leaves (convert_says c src room) (clipped_in c src) 0

-- What Convert's result says, and how many clipped pixels it gives.
abbrev pub converted_said : Result Converted Fault → Said
converted_said = said_by (λ c. c.pixels)

abbrev pub clips_of : Result Converted Fault → ℕ
clips_of (Ok c) = c.clipped
clips_of (Err f) = 0
