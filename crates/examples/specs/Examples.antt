-- The examples that are proved (rules 10.1 to 10.5, the depths of 10.6, 10.8 to 10.11), one after another. Those to 10.5, but for clipped
-- codes, light at 16 bits and moved light, are document 01's starred swatches.
-- Assumes nothing.
use Rattle.std.specs.Prelude.{ℕ, suc, ◌+◌, ◌-◌, ◌≡◌, Bool, true, false, List, [], ◌∷◌, ◌++◌, map, ℤ, pos, negsuc}
use Rattle.std.specs.Float.{nan, inf, fin}
use Rattle.std.specs.Float.Ieee.{neg}
use Rattle.doubles.specs.Doubles.{double}
use Rattle.samples.specs.declared.Pixel.{Pixel}
use Rattle.samples.specs.Samples.{pixel, samples_in}
use Rattle.esrgb.specs.Depths.{offset}
use Rattle.esrgb.specs.Codes.{from_srgb, to_srgb, srgb_value}
use Rattle.picture.specs.declared.Conversion.{Conversion}
use Rattle.picture.specs.declared.Conversion.TheVariants.{FromSrgb, ToSrgb, ChangeDepth, ToLumaChroma, ToEsycc, FromEsycc, ToSycc, FromSycc}
use Rattle.lumachroma.specs.LumaChroma.{to_luma_chroma, to_rgb}
use Rattle.picture.specs.Convert.{each, pixel_of}
use Rattle.transfer.specs.Light.{light_of_code}
use Rattle.transfer.specs.Level.{code_of_light}
use Rattle.tint.specs.declared.Tint.{Tint}
use Rattle.tint.specs.declared.Tint.TheVariants.{Code, Nonlinear, Light}
use Rattle.tint.specs.Tints.{TintSaid, gives, refuses_at, channels, tint_says}
use Rattle.refusal.specs.Answers.{Said, accepted, refused_at}
use Rattle.printer.specs.Arrivals.{arrivals, simulation_says}
use Rattle.printer.specs.Turns.{turn_bytes}
use Rattle.stickers.specs.declared.Four.{Four}
use Rattle.stickers.specs.declared.Choice.{Choice}
use Rattle.stickers.specs.Choices.{four, tint_of, chosen, choice_of}

-- An example: an operation, its input, and what the rules print for it. Single samples stand three to a pixel.
pub data Example : Type 0 where
  convert : Conversion → Pixel → Pixel → Example
  there_and_back : ℕ → Pixel → Pixel → Example
  from_srgb_and_back : ℕ → Pixel → Pixel → Example
  clips : ℕ → ℕ → Bool → Example
  light_of : ℕ → ℤ → ℤ → Example
  code_of : ℕ → ℤ → ℕ → Example
  tint : Tint → TintSaid → Example
  choice_for : List ℕ → List Pixel → ℕ → Choice → Example
  bytes_for : List ℕ → List Pixel → ℕ → List ℕ → Example
  turns_of : List ℕ → ℕ → List ℕ → Example
  simulation : List ℕ → ℕ → Said → Example

-- The code of a level, which may be negative; negsuc k is −(k + 1).
abbrev pub code_of_level : ℕ → ℤ → ℕ
code_of_level n (pos v) = offset n + v
code_of_level n (negsuc k) = offset n - suc k

-- What an example says: Convert of one pixel; a pixel of codes to luma and chroma and back; an sRGB pixel to codes, there and
-- back, and to sRGB; whether sRGB cannot hold a code; the light of a level; the code of a light; what is said of a tint; the
-- choice for a picture, and its bytes; the bytes of a printer's turns, and what is said of them.
abbrev pub Holds : Example → Type 0
Holds (convert c p printed) = pixel_of c p ≡ printed
Holds (there_and_back n p printed) = to_rgb n (to_luma_chroma n p) ≡ printed
Holds (from_srgb_and_back n p printed) = each (srgb_value n) (to_rgb n (to_luma_chroma n (each (from_srgb n) p))) ≡ printed
Holds (clips n code printed) = (to_srgb n code).clipped ≡ printed
Holds (light_of n level printed) = light_of_code n (code_of_level n level) ≡ printed
Holds (code_of n light printed) = code_of_light n light ≡ printed
Holds (tint t printed) = tint_says t ≡ printed
Holds (choice_for tints ps budget printed) = choice_of tints ps budget ≡ printed
Holds (bytes_for tints ps budget printed) = map (tint_of tints (chosen tints ps budget)) ps ≡ printed
Holds (turns_of numbers turns printed) = turn_bytes (arrivals numbers) turns ≡ printed
Holds (simulation numbers turns printed) = simulation_says numbers turns ≡ printed

-- Rule 10.10: 16 tints that are white but for tints 5 and 9, and perhaps tint 2; and three pixels.
abbrev pub white : Pixel
white = pixel 4095 4095 4095

abbrev pub tints_with : Pixel → List ℕ
tints_with second =
    samples_in
    (white ∷ white ∷ second ∷ white ∷ white ∷ pixel 10 0 0 ∷ white ∷ white ∷ white ∷ pixel 0 20 0
    ∷ white ∷ white ∷ white ∷ white ∷ white ∷ white ∷ [])

abbrev pub three_pixels : List Pixel
three_pixels = pixel 10 0 0 ∷ pixel 0 20 0 ∷ pixel 0 0 0 ∷ []

-- Rule 10.10, ties: 16 tints of which the first four are not white, and three pixels. The first is as near to tint 0 as to tint 1, and the
-- second to tint 2 as to tint 3.
abbrev pub tied_tints : List ℕ
tied_tints =
    samples_in
    (pixel 0 0 2 ∷ pixel 0 0 0 ∷ pixel 10 10 10 ∷ pixel 0 0 40 ∷ white ∷ white ∷ white ∷ white
    ∷ white ∷ white ∷ white ∷ white ∷ white ∷ white ∷ white ∷ white ∷ [])

abbrev pub tied_pixels : List Pixel
tied_pixels = pixel 0 0 1 ∷ pixel 5 5 25 ∷ pixel 10 10 10 ∷ []

abbrev pub answer : Four → ℕ → ℕ → ℕ → Choice
answer f sum looked least = record { four = f; sum = sum; looked = looked; least = least }

-- Rule 10.11: lists of arrivals.
abbrev pub four_arrivals : List ℕ
four_arrivals = 0 ∷ 2 ∷ 3 ∷ 1 ∷ 5 ∷ 1 ∷ 1 ∷ 2 ∷ 1 ∷ 6 ∷ 0 ∷ 1 ∷ []

abbrev pub behind_four : List ℕ
behind_four = 0 ∷ 4 ∷ 1 ∷ 2 ∷ 3 ∷ 1 ∷ 2 ∷ 6 ∷ 1 ∷ []

infixr 40 ◌&◌
pub data AllHold : List Example → Type 0 where
  done : AllHold []
  ◌&◌ : {s : Example} {rest : List Example} → Holds s → AllHold rest → AllHold (s ∷ rest)

-- Rule 10.1.
abbrev pub srgb_examples : List Example
srgb_examples =
    convert (FromSrgb 10) (pixel 0 128 255) (pixel 384 640 894)
    ∷ convert (FromSrgb 16) (pixel 255 255 255) (pixel 57216 57216 57216)
    ∷ convert (ToSrgb 10) (pixel 383 385 893) (pixel 0 1 255)
    ∷ convert (ToSrgb 10) (pixel 1023 1023 1023) (pixel 255 255 255)
    ∷ convert (ToSrgb 12) (pixel 1539 1540 1540) (pixel 0 1 1)
    ∷ clips 10 383 true
    ∷ clips 10 384 false
    ∷ clips 10 894 false
    ∷ clips 10 895 true
    ∷ clips 16 57216 false
    ∷ clips 16 57217 true
    ∷ []

-- Rule 10.2.
abbrev pub light_examples : List Example
light_examples =
    light_of 12 (pos 1) (pos 38)
    ∷ light_of 12 (negsuc 0) (negsuc 37)
    ∷ light_of 12 (pos 82) (pos 3111)
    ∷ light_of 12 (pos 2040) (pos 1000000)
    ∷ light_of 10 (pos 20) (pos 3035)
    ∷ light_of 16 (pos 16) (pos 38)
    ∷ light_of 16 (pos 8) (pos 19)
    ∷ light_of 16 (pos 4) (pos 10)
    ∷ light_of 16 (negsuc 3) (negsuc 9)
    ∷ light_of 16 (pos 40959) (pos 1680904)
    ∷ light_of 16 (negsuc 24575) (negsuc 527114)
    ∷ code_of 12 (pos 3130) 1618
    ∷ code_of 12 (pos 3131) 1619
    ∷ []

-- Rule 10.2, of black's light moved by as much as it keeps its code, and by one millionth more. They stand in a list of their own.
abbrev pub moved_examples : List Example
moved_examples =
    code_of 12 (pos 18) 1536
    ∷ code_of 12 (pos 19) 1537
    ∷ code_of 12 (negsuc 17) 1536
    ∷ code_of 12 (negsuc 18) 1535
    ∷ code_of 10 (pos 75) 384
    ∷ code_of 10 (pos 76) 385
    ∷ []

-- Rules 10.3 to 10.5.
abbrev pub luma_chroma_examples : List Example
luma_chroma_examples =
    convert (ToLumaChroma 10) (pixel 894 384 384) (pixel 536 426 767)
    ∷ convert (ToLumaChroma 10) (pixel 0 0 1023) (pixel 117 1023 429)
    ∷ convert (ToLumaChroma 10) (pixel 1023 1023 0) (pixel 906 1 595)
    ∷ convert (ToLumaChroma 10) (pixel 894 894 894) (pixel 894 512 512)
    -- Rule 10.4.
    ∷ there_and_back 10 (pixel 894 384 384) (pixel 894 383 384)
    ∷ there_and_back 10 (pixel 384 384 894) (pixel 385 384 894)
    ∷ there_and_back 12 (pixel 1536 1536 3576) (pixel 1536 1537 3576)
    -- Rule 10.5.
    ∷ from_srgb_and_back 10 (pixel 0 0 255) (pixel 1 0 255)
    ∷ from_srgb_and_back 12 (pixel 0 0 255) (pixel 0 0 255)
    ∷ []

-- Rule 10.6.
abbrev pub depth_examples : List Example
depth_examples =
    convert (ChangeDepth 10 12) (pixel 1023 1023 1023) (pixel 4092 4092 4092)
    ∷ convert (ChangeDepth 12 10) (pixel 1538 1539 4095) (pixel 385 385 1023)
    ∷ convert (ChangeDepth 16 10) (pixel 65535 65535 65535) (pixel 1023 1023 1023)
    ∷ convert (ChangeDepth 16 12) (pixel 65535 65535 65535) (pixel 4095 4095 4095)
    ∷ []

-- Rule 10.8. `double a b` is the double nearest to a / b, and `fin negative m e` is m × 2^e.
abbrev pub tint_examples : List Example
tint_examples =
    tint (Code 0 128 255) (gives (pixel 1536 2560 3576))
    ∷ tint (Nonlinear (channels (double 0 1) (double 1 1) (double 5 4))) (gives (pixel 1536 3576 4086))
    ∷ tint (Nonlinear (channels (neg (double 3059 4080)) (double 1 4080) (neg (double 0 1)))) (gives (pixel 7 1537 1536))
    ∷ tint (Nonlinear (channels (fin false 1 (pos 1023)) (fin true 1 (pos 1023)) (fin false 1 (negsuc 1073)))) (gives (pixel 4095 0 1536))
    ∷ tint (Light (channels (double 313 100000) (double 3131 1000000) (double 0 1))) (gives (pixel 1618 1619 1536))
    ∷ tint (Nonlinear (channels (double 1 1) (inf true) nan)) (refuses_at 17 1)
    ∷ tint (Light (channels nan (double 1 1) (inf false))) (refuses_at 17 0)
    ∷ []

-- Rule 10.9: white, black, red, green and blue of sRGB in e-sYCC and in sYCC. Red has luma 0.299, blue chroma −0.299 / 3.544, which is
-- −0.084368, and red chroma 0.701 / 2.804, which is 1/4: times 1,023, and chroma plus 512, these are 305.877, 425.692 and 767.75.
abbrev pub ycc_examples : List Example
ycc_examples =
    convert (ToEsycc 10) (pixel 894 894 894) (pixel 1023 512 512)
    ∷ convert (ToEsycc 10) (pixel 384 384 384) (pixel 0 512 512)
    ∷ convert (ToEsycc 10) (pixel 894 384 384) (pixel 306 426 768)
    ∷ convert (ToEsycc 10) (pixel 384 894 384) (pixel 601 343 298)
    ∷ convert (ToEsycc 10) (pixel 384 384 894) (pixel 117 768 470)
    ∷ convert (ToEsycc 12) (pixel 3576 3576 3576) (pixel 4095 2048 2048)
    ∷ convert (ToEsycc 12) (pixel 1536 1536 1536) (pixel 0 2048 2048)
    ∷ convert (ToEsycc 12) (pixel 3576 1536 1536) (pixel 1224 1703 3072)
    ∷ convert (ToEsycc 12) (pixel 1536 3576 1536) (pixel 2404 1370 1191)
    ∷ convert (ToEsycc 12) (pixel 1536 1536 3576) (pixel 467 3072 1882)
    ∷ convert (ToEsycc 16) (pixel 57216 57216 57216) (pixel 65535 32768 32768)
    ∷ convert (ToEsycc 16) (pixel 24576 24576 24576) (pixel 0 32768 32768)
    ∷ convert (ToEsycc 16) (pixel 57216 24576 24576) (pixel 19595 27239 49152)
    ∷ convert (ToEsycc 16) (pixel 24576 57216 24576) (pixel 38469 21913 19049)
    ∷ convert (ToEsycc 16) (pixel 24576 24576 57216) (pixel 7471 49152 30104)
    ∷ convert (ToSycc 10) (pixel 894 894 894) (pixel 255 128 128)
    ∷ convert (ToSycc 10) (pixel 384 384 384) (pixel 0 128 128)
    ∷ convert (ToSycc 10) (pixel 894 384 384) (pixel 76 85 255)
    ∷ convert (ToSycc 10) (pixel 384 894 384) (pixel 150 44 21)
    ∷ convert (ToSycc 10) (pixel 384 384 894) (pixel 29 255 107)
    ∷ convert (ToSycc 12) (pixel 3576 3576 3576) (pixel 255 128 128)
    ∷ convert (ToSycc 12) (pixel 1536 1536 1536) (pixel 0 128 128)
    ∷ convert (ToSycc 12) (pixel 3576 1536 1536) (pixel 76 85 255)
    ∷ convert (ToSycc 12) (pixel 1536 3576 1536) (pixel 150 44 21)
    ∷ convert (ToSycc 12) (pixel 1536 1536 3576) (pixel 29 255 107)
    ∷ convert (ToSycc 16) (pixel 57216 57216 57216) (pixel 255 128 128)
    ∷ convert (ToSycc 16) (pixel 24576 24576 24576) (pixel 0 128 128)
    ∷ convert (ToSycc 16) (pixel 57216 24576 24576) (pixel 76 85 255)
    ∷ convert (ToSycc 16) (pixel 24576 57216 24576) (pixel 150 44 21)
    ∷ convert (ToSycc 16) (pixel 24576 24576 57216) (pixel 29 255 107)
    ∷ convert (FromEsycc 10) (pixel 1023 512 512) (pixel 894 894 894)
    ∷ convert (FromEsycc 10) (pixel 0 512 512) (pixel 384 384 384)
    ∷ convert (FromEsycc 12) (pixel 4095 2048 2048) (pixel 3576 3576 3576)
    ∷ convert (FromEsycc 12) (pixel 0 2048 2048) (pixel 1536 1536 1536)
    ∷ convert (FromEsycc 16) (pixel 65535 32768 32768) (pixel 57216 57216 57216)
    ∷ convert (FromEsycc 16) (pixel 0 32768 32768) (pixel 24576 24576 24576)
    -- Levels 639, 639 and −384 over 510: blue less luma is −906.378, and times 1,023 / (510 × 3.544) plus 512 that is −1.004.
    ∷ convert (ToEsycc 10) (pixel 1023 1023 0) (pixel 1023 0 595)
    ∷ convert (FromEsycc 10) (pixel 306 426 768) (pixel 894 384 385)
    -- The grey of level 256: 255 × 256 / 510 is 128. Back, chroma is 1 / 1,020, so that red is 384 + 510 (128 + 0.701) / 255, 641.402.
    ∷ convert (ToSycc 10) (pixel 640 640 640) (pixel 128 128 128)
    ∷ convert (FromSycc 10) (pixel 128 128 128) (pixel 641 639 642)
    -- Both chromas are below −1/2, and clipped: 255 × −1/2 + 128 is 0.5.
    ∷ convert (ToSycc 10) (pixel 0 1023 0) (pixel 108 1 1)
    ∷ convert (FromSycc 10) (pixel 255 128 128) (pixel 895 893 896)
    ∷ convert (FromSycc 12) (pixel 255 128 128) (pixel 3582 3572 3583)
    ∷ convert (FromSycc 16) (pixel 255 128 128) (pixel 57306 57148 57329)
    ∷ []

-- Rule 10.10.
abbrev pub sticker_examples : List Example
sticker_examples =
    choice_for (tints_with white) three_pixels 1 (answer (four 0 1 2 3) 36825 1 10)
    ∷ bytes_for (tints_with white) three_pixels 1 (0 ∷ 0 ∷ 0 ∷ [])
    ∷ choice_for (tints_with white) three_pixels 3 (answer (four 0 1 2 5) 40 3 10)
    ∷ bytes_for (tints_with white) three_pixels 3 (5 ∷ 5 ∷ 5 ∷ [])
    ∷ choice_for (tints_with white) three_pixels 39 (answer (four 0 1 2 5) 40 39 10)
    ∷ bytes_for (tints_with white) three_pixels 39 (5 ∷ 5 ∷ 5 ∷ [])
    ∷ choice_for (tints_with white) three_pixels 40 (answer (four 0 1 5 9) 10 40 10)
    ∷ bytes_for (tints_with white) three_pixels 40 (5 ∷ 9 ∷ 5 ∷ [])
    ∷ choice_for (tints_with (pixel 10 0 0)) three_pixels 3 (answer (four 0 1 2 3) 40 3 10)
    ∷ bytes_for (tints_with (pixel 10 0 0)) three_pixels 3 (2 ∷ 2 ∷ 2 ∷ [])
    ∷ choice_for tied_tints tied_pixels 1 (answer (four 0 1 2 3) 26 1 26)
    ∷ bytes_for tied_tints tied_pixels 1 (0 ∷ 3 ∷ 2 ∷ [])
    ∷ choice_for (tints_with white) [] 7 (answer (four 0 1 2 3) 0 7 0)
    ∷ choice_for (tints_with white) [] 1821 (answer (four 0 1 2 3) 0 1820 0)
    ∷ []

-- Rule 10.11.
abbrev pub printer_examples : List Example
printer_examples =
    turns_of four_arrivals 9 (2 ∷ 5 ∷ 2 ∷ 2 ∷ 2 ∷ 255 ∷ 0 ∷ 255 ∷ 255 ∷ [])
    ∷ turns_of behind_four 4 (4 ∷ 255 ∷ 6 ∷ 3 ∷ [])
    ∷ simulation four_arrivals 9 (accepted 9)
    ∷ simulation [] 3 (accepted 3)
    ∷ simulation (99999 ∷ 7 ∷ 999 ∷ []) 0 (accepted 0)
    ∷ simulation (100000 ∷ 7 ∷ 999 ∷ []) 0 (refused_at 22 0)
    ∷ simulation (0 ∷ 8 ∷ 1 ∷ []) 3 (refused_at 22 0)
    ∷ simulation (0 ∷ 0 ∷ 1 ∷ 0 ∷ 0 ∷ 0 ∷ []) 3 (refused_at 22 1)
    ∷ simulation (0 ∷ 0 ∷ 1 ∷ 0 ∷ 0 ∷ 1000 ∷ []) 3 (refused_at 22 1)
    ∷ simulation (0 ∷ 0 ∷ 1 ∷ 5 ∷ 0 ∷ 1 ∷ 4 ∷ 0 ∷ 1 ∷ []) 3 (refused_at 22 2)
    ∷ simulation (0 ∷ 0 ∷ 1 ∷ 5 ∷ 0 ∷ []) 3 (refused_at 22 1)
    ∷ []

-- All of them, but for moved light.
abbrev pub examples : List Example
examples = srgb_examples ++ light_examples ++ luma_chroma_examples ++ depth_examples ++ tint_examples ++ ycc_examples ++ sticker_examples ++ printer_examples
