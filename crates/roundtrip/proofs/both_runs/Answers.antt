-- `roundtrip::both_runs` meets its contract: Convert's two clauses at each call are what demand 3 takes.
use Rattle.std.proofs.Common.{rules}
use Rattle.roundtrip.proofs.Programs.{both_runs}
use Rattle.roundtrip.proofs.both_runs.Goals as goal

pub returns : goal.returns
returns c =
    both_runs (λ i. (c.type_inv.picture i).fits) c.convert.auto.dst c.round_trip-there.auto.ycc c.round_trip-there.auto.back
    (record { says = search rules; bytes = c.convert.ensures.bytes })
    c.round_trip-there.ensures
    (record { says = c.convert-direct.ensures.answer; bytes = c.convert-direct.ensures.bytes })
    c.convert-direct.ensures.clips
    (record { says = c.convert-round.ensures.answer; bytes = c.convert-round.ensures.bytes })
    c.convert-round.ensures.clips
