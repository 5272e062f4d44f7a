-- `stickers::Request::tie_rank` meets its contract: a luma of 12 bits leaves room for the number.
use Rattle.std.proofs.Common.{◌≤◌, arith}
use Rattle.esrgb.specs.Depths.{greatest}
use Rattle.stickers.specs.HowTaken.{tie_rank}
use Rattle.stickers.proofs.Ranks.{luma_small}
use Rattle.stickers.proofs.Request.tie_rank.Goals as goal
use Rattle.stickers.proofs.Request.tie_rank.Goals.{After-tint_luma}

small : (c : After-tint_luma) → c.tint_luma.result ≤ greatest 12
small c =
    omega (arith, c.tint_luma.ensures, luma_small c.args.self.tints.now c.args.self.small c.args.t c.requires)

pub overflow_mul-result : goal.overflow_mul-result
overflow_mul-result c = omega (arith, small c)

pub overflow_add-result : goal.overflow_add-result
overflow_add-result c = omega (arith, small c)

pub returns : goal.returns
unfolding tie_rank
returns c = omega (arith, c.tint_luma.ensures)
