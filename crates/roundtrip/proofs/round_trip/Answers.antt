-- `roundtrip::round_trip` meets its contract: Convert's two clauses at each call are what demand 3 takes.
use Rattle.std.proofs.Common.{rules}
use Rattle.roundtrip.proofs.Programs.{trip}
use Rattle.roundtrip.proofs.round_trip.Goals as goal

pub returns : goal.returns
returns c =
    trip (record { says = search rules; bytes = c.convert.ensures.bytes }) (record { says = search rules; bytes = c.convert-2.ensures.bytes }) c.convert.auto.dst
