-- `kiosk::converted` meets its contract: Convert's clauses, and what C gets of its answer.
use mathlib.Core.Path.{◌∙◌}
use native.Mathlib.Omega.{arith}
use lib.ListN.{length}
use Rattle.kiosk.proofs.Counts.{convert-counts}
use Rattle.kiosk.proofs.converted.Goals as goal

pub answered-requires : goal.answered-requires
answered-requires c =
    convert-counts c.args.conversion c.args.src.now (length c.args.dst.now) (c.pixels_of.ensures ∙ c.convert.ensures.answer)
    (omega (arith, c.well_formed))
