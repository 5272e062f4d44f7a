-- `kiosk::kiosk_round_trip` meets its contract: two calls of Convert, and what C gets of their answers.
use native.Mathlib.Omega.{arith}
use lib.ListN.{length}
use Rattle.picture.specs.declared.Conversion.TheVariants.{ToLumaChroma, FromLumaChroma}
use Rattle.kiosk.proofs.Counts.{convert-counts}
use Rattle.kiosk.proofs.kiosk_round_trip.Goals as goal

pub answered-requires : goal.answered-requires
answered-requires c =
    let trip = c.round_trip-trip in
    convert-counts (FromLumaChroma c.args.depth) trip.new.ycc (length c.args.back.now) trip.ensures.again.says
    (omega (arith, c.well_formed, trip.auto.ycc))

pub answered-requires-2 : goal.answered-requires-2
answered-requires-2 c =
    convert-counts (ToLumaChroma c.args.depth) c.args.codes.now (length c.args.ycc.now) c.round_trip-trip.ensures.there.says
    (omega (arith, c.well_formed))
