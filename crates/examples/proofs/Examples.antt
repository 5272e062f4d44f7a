-- Every example holds, rule by rule. Those of pixels, of stickers and of a printer are computed; those of light are computed by the powers
-- that decide them, and those of tints are facts of the crate `tint`.
-- Assumes nothing.
use mathlib.Core.Path.{refl}
use mathlib.Core.List.{List, [], ◌∷◌, ◌++◌}
use Rattle.numbers.specs.Rounding.{nearest, nearest_down, clipped_to}
use Rattle.esrgb.specs.Codes.{from_srgb, to_srgb, change_depth}
use Rattle.lumachroma.specs.LumaChroma.{luma, chroma, blue_chroma, red_chroma, red_back, green_back, blue_back}
use Rattle.esycc.specs.Esycc as esycc
use Rattle.esycc.specs.Sycc.{half_more, chroma_byte}
use Rattle.transfer.proofs.Examples.{light_examples_lem, sixteen_examples, code-examples, moved-examples}
use Rattle.tint.proofs.Examples as tints
use Rattle.stickers.specs.Distances as distances
use Rattle.stickers.specs.Distances.{away, tint_luma, winner, least_of, summed}
use Rattle.stickers.specs.Choices.{upward, for_each, choices, best_from, best, chosen, choice_of}
use Rattle.printer.specs.Arrivals.{arrivals, keeps_limits, arrivals_say, simulation_says}
use Rattle.printer.specs.Turns.{came, next_from, after_print, after_turn, new_printer, printer_at, turn_byte, turn_bytes}
use Rattle.examples.specs.Examples.{Example, AllHold, done, ◌&◌, srgb_examples, light_examples, moved_examples, luma_chroma_examples, depth_examples, tint_examples, ycc_examples, sticker_examples, printer_examples, examples}

srgb_hold : AllHold srgb_examples
unfolding nearest from_srgb to_srgb
srgb_hold =
    refl & refl & refl & refl & refl & refl & refl & refl & refl & refl & refl
    & done

light_hold : AllHold light_examples
light_hold =
    light_examples_lem.0 & light_examples_lem.1 & light_examples_lem.2 & light_examples_lem.3 & light_examples_lem.4
    & sixteen_examples.0 & sixteen_examples.1 & sixteen_examples.2 & sixteen_examples.3 & sixteen_examples.4 & sixteen_examples.5
    & code-examples.0 & code-examples.1
    & done

pub moved_hold : AllHold moved_examples
moved_hold =
    moved-examples.0 & moved-examples.1 & moved-examples.2 & moved-examples.3 & moved-examples.4 & moved-examples.5
    & done

luma_chroma_hold : AllHold luma_chroma_examples
unfolding nearest nearest_down from_srgb to_srgb luma chroma blue_chroma red_chroma clipped_to red_back green_back blue_back
luma_chroma_hold =
    refl & refl & refl & refl & refl & refl & refl & refl & refl
    & done

depth_hold : AllHold depth_examples
unfolding nearest change_depth
depth_hold =
    refl & refl & refl & refl
    & done

tint_hold : AllHold tint_examples
tint_hold =
    tints.code_example & (tints.nonlinear_examples).0 & (tints.nonlinear_examples).1 & (tints.nonlinear_examples).2
    & tints.light_examples_lem & (tints.refused-examples).0 & (tints.refused-examples).1
    & done

ycc_hold : AllHold ycc_examples
unfolding clipped_to esycc.code esycc.luma esycc.chroma esycc.adding esycc.taking half_more chroma_byte nearest
ycc_hold =
    refl & refl & refl & refl & refl & refl & refl & refl & refl & refl & refl & refl & refl & refl & refl
    & refl & refl & refl & refl & refl & refl & refl & refl & refl & refl & refl & refl & refl & refl & refl
    & refl & refl & refl & refl & refl & refl & refl & refl & refl & refl & refl & refl & refl & refl
    & done

sticker_hold : AllHold sticker_examples
unfolding nearest luma away tint_luma winner distances.nearest least_of summed upward for_each choices best_from best chosen choice_of
sticker_hold =
    refl & refl & refl & refl & refl & refl & refl & refl & refl & refl & refl & refl & refl & refl
    & done

printer_hold : AllHold printer_examples
unfolding arrivals keeps_limits arrivals_say simulation_says came next_from after_print after_turn new_printer printer_at turn_byte turn_bytes
printer_hold =
    refl & refl & refl & refl & refl & refl & refl & refl & refl & refl & refl
    & done

and_then : (xs ys : List Example) → AllHold xs → AllHold ys → AllHold (xs ++ ys)
and_then [] ys done rest = rest
and_then (x ∷ xs) ys (h & hs) rest = h & and_then xs ys hs rest

pub all_hold : AllHold examples
all_hold =
    and_then srgb_examples _ srgb_hold
    (and_then light_examples _ light_hold
    (and_then luma_chroma_examples _ luma_chroma_hold
    (and_then depth_examples _ depth_hold
    (and_then tint_examples _ tint_hold
    (and_then ycc_examples _ ycc_hold
    (and_then sticker_examples _ sticker_hold printer_hold))))))
