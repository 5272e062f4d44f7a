-- `kiosk::kiosk_code_to_light` meets its contract: the operation's two clauses, and what C gets of its answer.
use mathlib.Core.Path.{sym, subst}
use native.Mathlib.Omega.{arith}
use lib.ListN.{length}
use Rattle.kiosk.specs.Interface.{Countable}
use Rattle.kiosk.proofs.Counts.{light_counts}
use Rattle.kiosk.proofs.kiosk_code_to_light.Goals as goal

pub answered-requires : goal.answered-requires
answered-requires c =
    subst Countable (sym c.code_to_light.ensures.answer)
    (light_counts c.args.depth c.args.src.now (length c.args.dst.now) (omega (arith, c.well_formed)))
