-- `stickers::Sums::add_block` meets its contract: one choice more at each turn.
use Rattle.std.proofs.Common.{refl, arith}
use Rattle.stickers.proofs.InOrder.{ascending-at}
use Rattle.stickers.proofs.Blocks.{adding-first, adding-more}
use Rattle.stickers.proofs.Sums.add_block.Goals as goal

pub loop-k-init : goal.loop-k-init
loop-k-init c = (refl, adding-first _ _ _ _ _ c.four_of-four.ensures)

pub four_sum-requires : goal.four_sum-requires
four_sum-requires c = rw (c.loop-k.invariant.1.here (omega arith)) (ascending-at c.loop-k.k (omega arith))

pub loop-k-preserved : goal.loop-k-preserved
loop-k-preserved c =
    let self = c.args.self.now in (
      c.loop-k.invariant.0,
      adding-more _ _ _ _ c.loop-k.self.all c.loop-k.four _ c.loop-k.k _ _ self.within self.whole (omega arith) c.four_sum.ensures.sum c.four_sum.ensures.few refl c.following-four.ensures c.loop-k.invariant.1,
    )
