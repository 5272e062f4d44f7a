-- `stickers::Sums::new` meets its contract: there is a sum for each choice.
use Rattle.std.proofs.Common.{sym}
use Rattle.stickers.proofs.InOrder.{all_counted}
use Rattle.stickers.proofs.Blocks.{zeros}
use Rattle.stickers.proofs.Sums.new.Goals as goal

pub invariant_of-result-clause-whole : goal.invariant_of-result-clause-whole
invariant_of-result-clause-whole c = sym all_counted

pub returns-clause-none : goal.returns-clause-none
returns-clause-none c = zeros 1820
