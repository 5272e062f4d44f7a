-- `printer::run` meets its contract: one turn more at each step of the loop.
use mathlib.Core.Path.{ap, ◌∙◌}
use native.Mathlib.Omega.{arith}
use lib.ListN.{length}
use Rattle.printer.specs.Turns.{turn_bytes}
use Rattle.printer.specs.HowRun.{listed}
use Rattle.printer.proofs.Judging.{all_listed}
use Rattle.printer.proofs.Running.{running_first, running_more, running_last}
use Rattle.printer.proofs.run.Goals as goal

pub loop-turn-init : goal.loop-turn-init
loop-turn-init c =
    let new = c.new-printer.ensures in
    rw (new.waiting, new.first, new.next)
    (running_first c.args.numbers.now c.args.bytes.now _ (length c.args.bytes.now) (ap listed c.as_chunks.ensures.front ∙ all_listed c.args.numbers.now) c.requires)

pub loop-turn-preserved : goal.loop-turn-preserved
loop-turn-preserved c =
    let turn = c.take_turn.ensures in
    running_more _ _ _ _ _ _ _ c.loop-turn.invariant _ _ _ _ (omega arith) (c.unwrap_or.ensures ∙ turn.byte) turn.left turn.ready c.take_turn.new.self.in_round

pub returns : goal.returns
returns c =
    running_last _ _ _ _ _ _ _ c.loop-turn.invariant (omega (arith, c.loop-turn.invariant.turn))
    ∙ ap (λ x. turn_bytes x (length c.args.bytes.now)) (ap listed c.as_chunks.ensures.front ∙ all_listed c.args.numbers.now)
