-- `stickers::search` meets its contract: the sums start at 0, and the earliest smallest of them is chosen.
use Rattle.std.proofs.Common.{◌≡◌, refl, ◌∙◌}
use Rattle.stickers.specs.Choices.{sum_of}
use Rattle.stickers.specs.Stickers.{picture_of}
use Rattle.stickers.proofs.Best.{choice_found}
use Rattle.stickers.proofs.search.Goals as goal

pub returns : goal.returns
returns c =
    let added = c.add_picture-least.ensures in
    let tints = c.args.request.tints.now in
    let picture = picture_of c.args.request.src.now in
    let limit : c.add_picture-least.new.self.limit ≡ c.args.limit = added.limit ∙ c.new-sums.ensures.limit in
    let sums = rw c.new-sums.ensures.limit at added.sums in
    let best = rw limit at c.earliest-best.ensures in
    rw (choice_found tints picture c.args.limit c.earliest-best.result c.add_picture-least.result c.requires.1
    (best (sum_of tints picture) sums) added.least)
    refl
