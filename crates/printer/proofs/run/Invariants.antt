-- `printer::run` meets its contract: one turn more at each step of the loop.
use Rattle.printer.specs.HowRun.{listed}
use Rattle.printer.proofs.Running.{Running}
use Rattle.printer.proofs.run.Given as goal

abbrev pub invariant-loop-turn : goal.invariant-loop-turn
invariant-loop-turn l = Running (listed l.rows) l.initial.bytes l.bytes l.printer.waiting l.printer.first l.printer.next l.turn
