-- `stickers::Block::row_sum` meets its contract: one column more at each turn.
use Rattle.std.proofs.Common.{◌≡◌, ◌*◌, ◌≤◌}
use Rattle.stickers.specs.HowSummed.{row_sum, most_entry}
use Rattle.stickers.proofs.Block.row_sum.Given as goal

abbrev pub invariant-loop-k : goal.invariant-loop-k
invariant-loop-k l = (l.sum ≤ most_entry * l.k) × (l.sum ≡ row_sum l.rows l.a l.b l.c l.d l.k)
