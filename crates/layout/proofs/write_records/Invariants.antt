-- `layout::write_records` meets its contract: the records from the place on, visited from here, leave what the whole pass leaves.
use Rattle.std.proofs.Common.{drop, ◌≡◌}
use Rattle.records.specs.declared.Layout.TheVariants.{Plain}
use Rattle.layout.specs.HowLaidOut.{starts, walked}
use Rattle.layout.proofs.write_records.Given as goal

abbrev pub invariant-loop-place : goal.invariant-loop-place
invariant-loop-place l =
    walked Plain (drop l.place l.records) l.place (starts l.end l.dst) ≡ walked Plain l.records 0 (starts l.first l.fn.dst)
