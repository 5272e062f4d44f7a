-- `stickers::fill_column` meets its contract: the distance to one tint more at each turn.
use Rattle.std.proofs.Common.{◌≡◌}
use Rattle.stickers.specs.Distances.{least_of}
use Rattle.stickers.specs.Choices.{from, least_of_all}
use Rattle.stickers.proofs.Blocks.{Filling}
use Rattle.stickers.proofs.fill_column.Given as goal

abbrev pub invariant-loop-t : goal.invariant-loop-t
invariant-loop-t l =
    (least_of l.request.tints.now l.colour.pixel l.least (from l.t) ≡ least_of_all l.request.tints.now l.colour.pixel) × Filling l.request.tints.now l.colour.pixel l.k l.initial.rows l.rows l.t
