-- `printer::judge` meets its contract: what is left of the list says what the whole list says.
use Prim.Native.Nat.{ℕ}
use mathlib.Core.Path.{◌≡◌}
use lib.ListN.{drop}
use Rattle.printer.specs.Arrivals.{arrivals_say, end_says, simulation_says}
use Rattle.printer.specs.HowRun.{listed}
use Rattle.printer.proofs.judge.Given as goal

abbrev pub invariant-loop-i : goal.invariant-loop-i
invariant-loop-i l =
    (turns : ℕ) → simulation_says l.numbers turns ≡ arrivals_say (end_says l.numbers turns) l.i l.before (drop l.i (listed l.rows))
