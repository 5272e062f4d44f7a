-- `stickers::Sums::add_block` meets its contract: one choice more at each turn.
use Rattle.std.proofs.Common.{◌≡◌}
use Rattle.stickers.proofs.Blocks.{Adding}
use Rattle.stickers.proofs.Sums.add_block.Given as goal

abbrev pub invariant-loop-k : goal.invariant-loop-k
invariant-loop-k l =
    (l.self.limit ≡ l.initial.self.limit) × Adding l.block.rows.now l.block.count l.initial.self.limit l.initial.self.all l.self.all l.four l.k
