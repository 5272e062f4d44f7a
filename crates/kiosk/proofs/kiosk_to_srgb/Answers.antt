-- `kiosk::kiosk_to_srgb` meets its contract: Convert's clauses, and what C gets of its answer and of its count.
use mathlib.Core.Path.{◌∙◌}
use native.Mathlib.Omega.{arith}
use lib.ListN.{length}
use Rattle.picture.specs.declared.Conversion.TheVariants.{ToSrgb}
use Rattle.kiosk.proofs.Counts.{convert-counts}
use Rattle.kiosk.proofs.kiosk_to_srgb.Goals as goal

pub answered-requires : goal.answered-requires
answered-requires c =
    convert-counts (ToSrgb c.args.depth) c.args.src.now (length c.args.dst.now) (c.pixels_of.ensures ∙ c.convert-given.ensures.answer)
    (omega (arith, c.well_formed))
