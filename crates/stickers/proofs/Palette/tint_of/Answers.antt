-- `stickers::Palette::tint_of` meets its contract: the least rank of the four, one after another.
use Rattle.std.proofs.Common.{◌%◌, ap}
use Rattle.stickers.proofs.Ranks.{ranked}
use Rattle.stickers.proofs.Palette.tint_of.Goals as goal

pub returns : goal.returns
returns c =
    let self = c.args.self.now in
    ranked self.request.tints.now self.request.small c.args.colour.pixel self.four self.ascending _ _ _ _ _ _ _ _
    c.rank_of-first.ensures c.rank_of.ensures c.rank_of-2.ensures c.rank_of-3.ensures
    c.min-two.ensures c.min-three.ensures c.min-four.ensures (ap (λ n. c.min-four.result % n) c.from.ensures)
