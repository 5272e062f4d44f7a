-- `kiosk::kiosk_printer` meets its contract: the operation's clauses, and what C gets of its answer.
use mathlib.Core.Path.{sym, subst}
use native.Mathlib.Omega.{arith}
use lib.ListN.{length}
use Rattle.kiosk.specs.Interface.{Countable}
use Rattle.kiosk.proofs.Counts.{printer-counts}
use Rattle.kiosk.proofs.kiosk_printer.Goals as goal

pub answered-requires : goal.answered-requires
answered-requires c =
    subst Countable (sym c.simulate.ensures.answer)
    (printer-counts c.args.numbers.now (length c.args.bytes.now) (omega (arith, c.well_formed)))
