-- `linear::moved::add_moves` meets its contract. The invariant: the light moved, and the light left with its moves, give all of it.
use Rattle.linear.proofs.Moving.{MovedTo}
use Rattle.linear.proofs.moved.add_moves.Given as goal

abbrev pub invariant-loop-k : goal.invariant-loop-k
invariant-loop-k l = MovedTo l.moves l.initial.light l.light l.k
