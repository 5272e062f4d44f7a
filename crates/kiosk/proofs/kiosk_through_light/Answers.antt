-- `kiosk::kiosk_through_light` meets its contract: what the operation promises, and what C gets of its answer.
use native.Mathlib.Omega.{arith}
use Rattle.kiosk.proofs.Counts.{through_counts}
use Rattle.kiosk.proofs.kiosk_through_light.Goals as goal

pub answered-requires : goal.answered-requires
answered-requires c =
    through_counts c.through_light.ensures (omega (arith, c.well_formed))
