-- `printer::Printer::arrive` meets its contract: each arrival of the turn comes, and the first of a later turn ends it.
use mathlib.Core.Path.{◌≡◌}
use Rattle.printer.specs.HowRun.{listed}
use Rattle.printer.proofs.Arriving.{Coming}
use Rattle.printer.proofs.Printer.arrive.Given as goal

abbrev pub invariant-loop-next : goal.invariant-loop-next
invariant-loop-next l = record {
  same_first : l.self.first ≡ l.initial.self.first;
  same_next : l.self.next ≡ l.next;
  coming : Coming (listed l.rows) l.turn l.initial.self.waiting l.self.waiting l.next;
}
