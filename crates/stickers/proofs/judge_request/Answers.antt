-- `stickers::judge_request` meets its contract: the picture, and then the rest.
use Rattle.std.proofs.Common.{sym, ◌∙◌}
use Rattle.stickers.proofs.Requests.{rest-decides}
use Rattle.stickers.proofs.judge_request.Goals as goal

pub returns : goal.returns
returns c =
    let a = c.args in
    c.judge_work.ensures ∙ rest-decides a.src.now a.tints.now a.budget a.room _ (sym (c.in_ok-pixels.ensures))
