-- `stickers::fill_block` meets its contract: one column more at each turn.
use Rattle.std.proofs.Common.{ap, ◌∙◌, arith}
use Rattle.stickers.specs.Choices.{least_of_all}
use Rattle.stickers.specs.Stickers.{picture_of}
use Rattle.stickers.proofs.Blocks.{block_more, sum_more}
use Rattle.stickers.proofs.fill_block.Goals as goal

pub loop-k-preserved : goal.loop-k-preserved
loop-k-preserved c =
    let a = c.args in
    let tints = a.request.tints.now in
    let picture = picture_of a.request.src.now in
    let pixel = c.colour_at-colour.ensures in
    let column = c.fill_column.ensures.column in (
      omega arith,
      column.whole ∙ c.loop-k.invariant.1,
      sum_more (least_of_all tints) picture a.start c.loop-k.k c.loop-k.sum _ (omega arith) (c.from-sum.ensures ∙ c.fill_column.ensures.least ∙ ap (least_of_all tints) pixel) c.loop-k.invariant.2,
      block_more tints picture a.start c.loop-k.k c.loop-k.rows _ _ (omega arith) pixel column c.loop-k.invariant.3,
    )
