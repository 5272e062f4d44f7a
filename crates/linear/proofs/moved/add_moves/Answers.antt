-- `linear::moved::add_moves` meets its contract: a turn moves one more number, and the last leaves none.
use native.Mathlib.Omega.{arith}
use Rattle.std.proofs.Common.{rules}
use Rattle.linear.proofs.Moving.{saturated, moved_more, moved_all}
use Rattle.linear.proofs.moved.add_moves.Goals as goal

pub loop-k-preserved : goal.loop-k-preserved
loop-k-preserved c =
    moved_more c.args.moves.now c.args.light.now c.loop-k.light c.loop-k.k _ (omega arith) (omega arith) (search (rules, saturated)) c.loop-k.invariant

pub returns : goal.returns
returns c =
    moved_all c.args.moves.now c.args.light.now c.loop-k.light c.loop-k.k (omega arith) c.loop-k.invariant
