-- `linear::search::LevelSearch::level_of` meets its contract. The invariant: what is looked for is among the next levels, half as many at each turn.
use Prim.Native.Nat.{◌/◌, ◌^◌}
use Rattle.esrgb.specs.Depths.{bits}
use Rattle.transfer.specs.HowTabled.{few_levels}
use Rattle.linear.proofs.Halving.{Window}
use Rattle.linear.proofs.search.LevelSearch.level_of.Given as goal

abbrev pub invariant-loop-half : goal.invariant-loop-half
invariant-loop-half l = Window (bits l.self.depth) l.light l.level (few_levels / 2 ^ l.half-index)
