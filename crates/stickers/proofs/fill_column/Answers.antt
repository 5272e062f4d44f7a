-- `stickers::fill_column` meets its contract: the distance to one tint more at each turn.
use Rattle.std.proofs.Common.{◌≡◌, ◌+◌, min, sym, ap, ◌∙◌, arith}
use Rattle.stickers.specs.Distances.{least_of}
use Rattle.stickers.specs.Choices.{from}
use Rattle.stickers.proofs.Nearest.{least_starts, least_more, least_ends}
use Rattle.stickers.proofs.Blocks.{filling_first, filling_more}
use Rattle.stickers.proofs.fill_column.Goals as goal

pub loop-t-init : goal.loop-t-init
loop-t-init c =
    let a = c.args in
    let tints = a.request.tints.now in (
      ap (λ m. least_of tints a.colour.pixel m (from 0)) c.distance_to-least.ensures ∙ least_starts tints a.colour.pixel,
      filling_first tints a.colour.pixel a.k a.rows.now,
    )

pub loop-t-preserved : goal.loop-t-preserved
loop-t-preserved c =
    let a = c.args in
    let tints = a.request.tints.now in
    let pixel = a.colour.pixel in
    let t = c.loop-t.t in
    let distance = c.distance_to-distance.ensures in
    let least : c.min-least.result ≡ min c.loop-t.least c.distance_to-distance.result = c.min-least.ensures in (
      ap (λ m. least_of tints pixel m (from (t + 1))) (least ∙ ap (min c.loop-t.least) distance)
          ∙ sym (least_more tints pixel c.loop-t.least t (omega arith))
          ∙ c.loop-t.invariant.0,
      filling_more tints pixel a.k a.rows.now c.loop-t.rows t _ c.told-rows c.requires (omega arith) distance c.loop-t.invariant.1,
    )

pub returns-clause-least : goal.returns-clause-least
returns-clause-least c =
    sym (least_ends c.args.request.tints.now c.args.colour.pixel c.loop-t.least c.loop-t.t (omega arith)) ∙ c.loop-t.invariant.0
