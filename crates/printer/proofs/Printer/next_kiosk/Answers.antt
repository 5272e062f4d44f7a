-- `printer::Printer::next_kiosk` meets its contract: of the kiosks that are left the first that waits is the first of all.
use Prim.Native.Nat.{◌+◌, ◌-◌}
use mathlib.Core.Path.{sym, ◌∙◌}
use native.Mathlib.Omega.{arith}
use Rattle.printer.specs.Arrivals.{kiosk_count}
use Rattle.printer.proofs.Rounds.{next_on, next_here, next_none}
use Rattle.printer.proofs.Printer.next_kiosk.Goals as goal

pub returns-then-self-k-ne0-clause-next : goal.returns-then-self-k-ne0-clause-next
returns-then-self-k-ne0-clause-next c =
    let ahead = c.loop-ahead.ahead in
    sym (c.loop-ahead.invariant.next ∙ next_here _ (kiosk_count - ahead) (kiosk_count - (ahead + 1)) _ (omega arith) c.if-self-k-ne0.true)

pub loop-ahead-preserved : goal.loop-ahead-preserved
loop-ahead-preserved c =
    let ahead = c.loop-ahead.ahead in
    record { there = omega arith; from_first = omega arith; next = c.loop-ahead.invariant.next ∙ next_on _ (kiosk_count - ahead) (kiosk_count - (ahead + 1)) _ (omega arith) c.if-self-k-ne0.false }

pub returns : goal.returns
returns c =
    record { next = sym (c.loop-ahead.invariant.next ∙ next_none _ (kiosk_count - c.loop-ahead.ahead) _ (omega arith)); waits = tt }
