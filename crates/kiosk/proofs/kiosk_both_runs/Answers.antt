-- `kiosk::kiosk_both_runs` meets its contract: five calls of Convert, and what C gets of their answers and counts.
use mathlib.Core.Path.{◌∙◌}
use native.Mathlib.Omega.{arith}
use lib.ListN.{length}
use Rattle.picture.specs.declared.Conversion.TheVariants.{FromSrgb, ToSrgb, ToLumaChroma, FromLumaChroma}
use Rattle.kiosk.proofs.Counts.{convert-counts}
use Rattle.kiosk.proofs.kiosk_both_runs.Goals as goal

pub answered-requires : goal.answered-requires
answered-requires c =
    let runs = c.both_runs-runs in
    convert-counts (FromSrgb c.args.depth) c.args.picture.now (length c.args.codes.now) runs.ensures.made.says (omega (arith, c.well_formed))

pub answered-requires-2 : goal.answered-requires-2
answered-requires-2 c =
    let runs = c.both_runs-runs in
    convert-counts (ToLumaChroma c.args.depth) runs.new.codes (length c.args.ycc.now) runs.ensures.trip.there.says
    (omega (arith, c.well_formed, runs.auto.codes))

pub answered-requires-3 : goal.answered-requires-3
answered-requires-3 c =
    let runs = c.both_runs-runs in
    convert-counts (FromLumaChroma c.args.depth) runs.new.ycc (length c.args.back.now) runs.ensures.trip.again.says
    (omega (arith, c.well_formed, runs.auto.ycc))

pub answered-requires-4 : goal.answered-requires-4
answered-requires-4 c =
    let runs = c.both_runs-runs in
    convert-counts (ToSrgb c.args.depth) runs.new.codes (length c.args.direct.now) (c.pixels_of.ensures ∙ runs.ensures.direct-back.says)
    (omega (arith, c.well_formed, runs.auto.codes))

pub answered-requires-5 : goal.answered-requires-5
answered-requires-5 c =
    let runs = c.both_runs-runs in
    convert-counts (ToSrgb c.args.depth) runs.new.back (length c.args.round.now) (c.pixels_of-2.ensures ∙ runs.ensures.round-back.says)
    (omega (arith, c.well_formed, runs.auto.back))
