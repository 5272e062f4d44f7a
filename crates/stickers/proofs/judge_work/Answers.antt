-- `stickers::judge_work` meets its contract: each way out is its step of the order of refusals.
use Rattle.std.proofs.Common.{arith, length}
use Rattle.stickers.proofs.InOrder.{all_counted}
use Rattle.stickers.proofs.Requests.{work-done}
use Rattle.stickers.proofs.judge_work.Goals as goal

pub returns : goal.returns
returns c =
    let a = c.args in
    work-done (length a.src.now) a.tints.now a.budget a.pixels c.in_default.ensures c.if-budget-eq0.false (omega (arith, c.if-pixels-gt-MOST_PIXELS.false)) _ (omega (arith, all_counted))
