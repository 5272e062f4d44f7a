-- `linear::search::LevelSearch::level_of` meets its contract. The invariant: what is looked for is among the next levels, half as many at each turn.
use Rattle.esrgb.proofs.Scale.{scale}
use Rattle.linear.proofs.Halving.{turn}
use Rattle.linear.proofs.search.LevelSearch.level_of.Goals as goal

pub loop-half-preserved : goal.loop-half-preserved
loop-half-preserved c =
    let search = c.args.self in
    turn _ (scale search.depth) _ search.thresholds_hold _ _ _ _ c.loop-half-test.true c.loop-half.invariant c.from.ensures
