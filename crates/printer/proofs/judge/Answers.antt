-- `printer::judge` meets its contract: what is left of the list says what the whole list says.
use mathlib.Core.Path.{sym, ◌∙◌}
use Rattle.printer.specs.Arrivals.{simulation_says}
use Rattle.printer.proofs.Judging.{all_listed, read_here, say_on, say_here}
use Rattle.printer.proofs.judge.Goals as goal

pub loop-i-init : goal.loop-i-init
unfolding simulation_says
loop-i-init c = λ turns. rw (c.as_chunks.ensures.front, all_listed)

pub returns-then-not-keeps_limits : goal.returns-then-not-keeps_limits
returns-then-not-keeps_limits c = λ turns.
    let here = read_here _ c.loop-i.i _ c.loop-i-test.true c.from-arrival.ensures in
    let says = c.loop-i.invariant turns ∙ say_here _ _ _ c.loop-i.i c.loop-i.before _ here (sym c.keeps_limits.ensures ∙ c.if-not-keeps_limits.true) in
    rw c.at.ensures (sym says)

pub loop-i-preserved : goal.loop-i-preserved
loop-i-preserved c = λ turns.
    let here = read_here _ c.loop-i.i _ c.loop-i-test.true c.from-arrival.ensures in
    c.loop-i.invariant turns ∙ say_on _ _ _ c.loop-i.i c.loop-i.before _ here (sym c.keeps_limits.ensures ∙ c.if-not-keeps_limits.false)
