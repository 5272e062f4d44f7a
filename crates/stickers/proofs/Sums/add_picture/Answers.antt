-- `stickers::Sums::add_picture` meets its contract: one block more at each turn.
use Rattle.std.proofs.Common.{◌≡◌, ◌+◌, ◌∙◌, arith}
use Rattle.stickers.specs.Stickers.{picture_of}
use Rattle.stickers.proofs.Blocks.{Summing, summing_more, summing_done}
use Rattle.stickers.proofs.Sums.add_picture.Goals as goal
use Rattle.stickers.proofs.Sums.add_picture.Goals.{After-add_block}

-- What there is after one block more.
more :
    (c : After-add_block)
    → Summing c.args.request.tints.now (picture_of c.args.request.src.now) c.args.self.now.limit c.add_block.new.self.all (c.loop-start.least + c.fill_block-least.result) (c.loop-start.start + c.min-count.result)
more c =
    let block = c.fill_block-least.ensures in
    let added = rw c.loop-start.invariant.0 at c.add_block.ensures.added in
    summing_more c.args.request.tints.now (picture_of c.args.request.src.now) c.args.self.now.limit c.loop-start.self.all _ _ c.loop-start.least _ c.loop-start.start _
    c.args.self.now.within (omega (arith, c.min-count.ensures, c.pixel_count-pixels.ensures)) block.least block.few block.block added c.loop-start.invariant.1

pub loop-start-preserved : goal.loop-start-preserved
loop-start-preserved c =
    let next : c.loop-start.start + 256 ≡ c.loop-start.start + c.min-count.result = omega (arith, c.min-count.ensures) in
    (c.add_block.ensures.limit ∙ c.loop-start.invariant.0, rw next (more c.before))

pub returns : goal.returns
returns c =
    let done = summing_done c.args.request.tints.now (picture_of c.args.request.src.now) c.args.self.now.limit c.loop-start.self.all c.loop-start.least c.loop-start.start (omega (arith, c.pixel_count-pixels.ensures)) c.loop-start.invariant.1 in
    record { least = done.0; sums = done.1; limit = c.loop-start.invariant.0 }

pub returns-2 : goal.returns-2
returns-2 c =
    let done = summing_done c.args.request.tints.now (picture_of c.args.request.src.now) c.args.self.now.limit c.add_block.new.self.all _ _ (omega (arith, c.min-count.ensures, c.pixel_count-pixels.ensures)) (more c.before) in
    record { least = done.0; sums = done.1; limit = c.add_block.ensures.limit ∙ c.loop-start.invariant.0 }
