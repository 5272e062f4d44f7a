-- `kiosk::kiosk_lay_out` meets its contract: the length that Lay out gives is countable.
use mathlib.Core.Path.{sym, subst}
use lib.ListN.{length}
use Rattle.kiosk.specs.Interface.{Countable}
use Rattle.kiosk.proofs.Counts.{layout-counts}
use Rattle.kiosk.proofs.kiosk_lay_out.Goals as goal

pub answered-requires : goal.answered-requires
answered-requires c =
    subst Countable (sym c.lay_out.ensures.0) (layout-counts c.args.records.now (length c.args.dst.now))
