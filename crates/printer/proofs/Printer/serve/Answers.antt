-- `printer::Printer::serve` meets its contract: a kiosk with a print waiting is none that stands for no kiosk.
use borrow.Author.Tests.{ne_eqb}
use native.Mathlib.Omega.{arith}
use Rattle.printer.specs.Turns.{after_print}
use Rattle.printer.proofs.Printer.serve.Goals as goal

pub returns-clause-left : goal.returns-clause-left
unfolding after_print
returns-clause-left c = simp (ne_eqb c.args.kiosk 255 (λ e. omega (arith, c.requires.there)))
