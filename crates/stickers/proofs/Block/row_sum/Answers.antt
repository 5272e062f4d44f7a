-- `stickers::Block::row_sum` meets its contract: one column more at each turn.
use Rattle.std.proofs.Common.{refl, ◌∙◌, arith}
use Rattle.stickers.specs.HowSummed.{row_sum}
use Rattle.stickers.proofs.Blocks.{row_more}
use Rattle.stickers.proofs.Block.row_sum.Goals as goal

pub loop-k-init : goal.loop-k-init
unfolding row_sum
loop-k-init c = (omega arith, refl)

pub loop-k-preserved : goal.loop-k-preserved
loop-k-preserved c =
    let a = c.args in (
      omega arith,
      row_more a.self.rows.now a.a a.b a.c a.d c.loop-k.k _ _ _ _ c.loop-k.invariant.1 c.min-two.ensures c.min-three.ensures (c.from-sum.ensures ∙ c.min.ensures),
    )
