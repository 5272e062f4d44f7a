-- How the code converts: what it plans once it has looked at a conversion's depths, and what each of its loops writes.
-- Assumes nothing.
use Rattle.std.specs.Prelude.{ℕ, ◌%◌, ◌≡◌, Bool, true, false, ◌||◌, List, [], ◌∷◌, map, length, Result, Ok, Err}
use Rattle.numbers.specs.Counting.{how_many}
use Rattle.refusal.specs.declared.Refusal.{Refusal}
use Rattle.refusal.specs.declared.Refusal.TheVariants.{DepthNotOffered}
use Rattle.refusal.specs.Answers.{Said}
use Rattle.samples.specs.declared.Pixel.{Pixel}
use Rattle.samples.specs.declared.Coding.{Coding}
use Rattle.samples.specs.Samples.{pixel_size, samples_of, bytes_of, read}
use Rattle.samples.specs.Faults.{wide_coding, source_says}
use Rattle.esrgb.specs.Depths.{bits}
use Rattle.esrgb.specs.declared.Gamut.{Gamut}
use Rattle.esrgb.specs.HowApplied.{affine, to_eight, changed, cut_of, outside}
use Rattle.picture.specs.declared.Conversion.{Conversion}
use Rattle.picture.specs.declared.Conversion.TheVariants.{ToLumaChroma, FromLumaChroma, ToEsycc, FromEsycc, ToSycc, FromSycc}
use Rattle.picture.specs.declared.PixelRule.{PixelRule}
use Rattle.picture.specs.declared.PixelRule.TheVariants as rule
use Rattle.picture.specs.declared.Sides.{Sides}
use Rattle.picture.specs.declared.Work.{Work}
use Rattle.picture.specs.declared.Work.TheVariants.{Widen, Narrow, Change, Pixels}
use Rattle.picture.specs.declared.Plan.{Plan}
use Rattle.picture.specs.Forms.{coding_of, wide_form}
use Rattle.picture.specs.Convert.{source, target, offers, converted, clipped, clipped_in}

-- A row for each rule that takes a whole pixel at a time: the conversion that it does, at a depth of n bits.
abbrev pub done_by : PixelRule → ℕ → Conversion
done_by rule.ToLumaChroma n = ToLumaChroma n
done_by rule.FromLumaChroma n = FromLumaChroma n
done_by rule.ToEsycc n = ToEsycc n
done_by rule.FromEsycc n = FromEsycc n
done_by rule.ToSycc n = ToSycc n
done_by rule.FromSycc n = FromSycc n

-- Whatever a call gives for a pixel, f gives it too.
abbrev pub Gives : (Pixel → Pixel → Type 0) → (Pixel → Pixel) → Type 0
Gives post f = (p q : Pixel) → post p q → q ≡ f p

-- What a conversion reads, and whether it writes wide samples.
abbrev pub sides_of : Conversion → Sides
sides_of c = record { reads = coding_of (source c); wide = wide_form (target c) }

-- To sRGB, the bytes of some codes.
abbrev pub narrowed : ℕ → List ℕ → List ℕ
narrowed n src = bytes_of false (map (to_eight (cut_of n)) (samples_of true src))

-- Is one of some codes outside of what sRGB holds? And is a pixel, in one of its channels?
unfoldable pub some_outside : Gamut → List ℕ → Bool
some_outside gamut [] = false
some_outside gamut (x ∷ xs) = outside gamut x || some_outside gamut xs

abbrev pub pixel_outside : Gamut → Pixel → Bool
pixel_outside gamut p = outside gamut p.first || outside gamut p.second || outside gamut p.third

-- How many pixels are brought to sRGB at a time.
abbrev pub block_size : ℕ
block_size = 16384

-- Whether a loop reads wide samples, whether it writes them, and what it writes.
abbrev pub reads_wide : Work → Bool
reads_wide (Widen line) = false
reads_wide (Narrow depth) = true
reads_wide (Change change) = true
reads_wide (Pixels rule depth) = wide_form (source (done_by rule (bits depth)))

abbrev pub writes_wide : Work → Bool
writes_wide (Widen line) = true
writes_wide (Narrow depth) = false
writes_wide (Change change) = true
writes_wide (Pixels rule depth) = wide_form (target (done_by rule (bits depth)))

abbrev pub made : Work → List ℕ → List ℕ
made (Widen line) src = bytes_of true (map (affine line) (samples_of false src))
made (Narrow depth) src = narrowed (bits depth) src
made (Change change) src = bytes_of true (map (changed change) (samples_of true src))
made (Pixels rule depth) src = converted (done_by rule (bits depth)) src

-- How many clipped pixels it counts.
abbrev pub counted : Work → List ℕ → ℕ
counted (Widen line) src = 0
counted (Narrow depth) src = how_many (clipped (bits depth)) (read true src)
counted (Change change) src = 0
counted (Pixels rule depth) src = 0

-- A plan of a conversion: what its source may be, and a loop that does it.
pub record Plans (c : Conversion) (coding : Coding) (work : Work) : Type 0 where
  pub offered : offers c ≡ true
  pub coding-is : coding_of (source c) ≡ coding
  pub reads : wide_coding coding ≡ reads_wide work
  pub writes : wide_form (target c) ≡ writes_wide work
  pub makes : (src : List ℕ) → length src % pixel_size (wide_coding coding) ≡ 0 → made work src ≡ converted c src
  pub counts : (src : List ℕ) → counted work src ≡ clipped_in c src

-- It is found, or a depth is refused.
abbrev pub Planned : Conversion → Result Plan Refusal → Type 0
Planned c (Ok plan) = Plans c plan.coding plan.work
Planned c (Err r) = (offers c ≡ false) × (r ≡ DepthNotOffered)

-- What a plan says of a source, for a destination of `room` bytes.
abbrev pub plan_says : Plan → List ℕ → ℕ → Said
plan_says plan src room = source_says true plan.coding (writes_wide plan.work) src room
