-- `layout::check_records` meets its contract: the records from the place on say, from here, what all of them say.
use Rattle.std.proofs.Common.{◌≡◌, drop}
use Rattle.refusal.specs.Answers.{accepted}
use Rattle.layout.specs.LayOut.{records_say}
use Rattle.layout.specs.HowLaidOut.{summed}
use Rattle.layout.proofs.check_records.Given as goal

abbrev pub invariant-loop-place : goal.invariant-loop-place
invariant-loop-place l =
    records_say (accepted (summed l.end (drop l.place l.records))) l.place (drop l.place l.records) ≡ records_say (accepted (summed 0 l.records)) 0 l.records
