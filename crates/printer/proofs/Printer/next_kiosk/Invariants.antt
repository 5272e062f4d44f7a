-- `printer::Printer::next_kiosk` meets its contract: of the kiosks that are left the first that waits is the first of all.
use Prim.Native.Nat.{◌+◌, ◌-◌, ◌%◌, ◌<◌}
use mathlib.Core.Path.{◌≡◌}
use Rattle.printer.specs.Arrivals.{kiosk_count}
use Rattle.printer.specs.Turns.{next_from, next_kiosk}
use Rattle.printer.proofs.Printer.next_kiosk.Given as goal

abbrev pub invariant-loop-ahead : goal.invariant-loop-ahead
invariant-loop-ahead l = record {
  there : l.k < kiosk_count;
  from_first : l.k ≡ (l.self.first + l.ahead) % kiosk_count;
  next : next_kiosk l.self.waiting l.self.first ≡ next_from l.self.waiting (kiosk_count - l.ahead) l.k;
}
