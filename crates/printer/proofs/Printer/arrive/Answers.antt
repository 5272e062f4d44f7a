-- `printer::Printer::arrive` meets its contract: each arrival of the turn comes, and the first of a later turn ends it.
use mathlib.Core.Path.{refl}
use native.Mathlib.Omega.{arith}
use Rattle.printer.proofs.Judging.{length-listed, stands_at}
use Rattle.printer.proofs.Arriving.{coming_first, none_left, here_due, coming_more, stops_here, all_came, next_ready}
use Rattle.printer.proofs.Printer.arrive.Goals as goal

pub loop-next-init : goal.loop-next-init
loop-next-init c =
    record { same_first = refl; same_next = refl; coming = coming_first c.requires }

pub bounds-self-arrival : goal.bounds-self-arrival
bounds-self-arrival c =
    (here_due _ _ _ _ _ c.loop-next.invariant.coming _ (stands_at _ _ _ c.loop-next-test.true c.from-arrival.ensures)).there

pub bounds-self-arrival-in-loop-next : goal.bounds-self-arrival-in-loop-next
bounds-self-arrival-in-loop-next c =
    (here_due _ _ _ _ _ c.loop-next.invariant.coming _ (stands_at _ _ _ c.loop-next-test.true c.from-arrival.ensures)).there

pub overflow_add-self : goal.overflow_add-self
overflow_add-self c =
    let coming = c.loop-next.invariant.coming in
    let due = here_due _ _ _ _ _ coming _ (stands_at _ _ _ c.loop-next-test.true c.from-arrival.ensures) in
    omega (arith, coming.few c.from-arrival.result.kiosk, length-listed c.args.rows.now)

pub returns-then-arrival-turn : goal.returns-then-arrival-turn
returns-then-arrival-turn c =
    let i = c.loop-next.invariant in
    let stops = stops_here _ _ _ _ _ i.coming _ (stands_at _ _ _ c.loop-next-test.true c.from-arrival.ensures) c.if-arrival-turn.true in
    record { came = all_came _ _ _ _ _ i.coming stops; first = i.same_first; ready = rw i.same_next (next_ready _ _ _ _ _ i.coming stops) }

pub loop-next-preserved : goal.loop-next-preserved
loop-next-preserved c =
    let i = c.loop-next.invariant in
    let next_is = stands_at _ _ _ c.loop-next-test.true c.from-arrival.ensures in
    record { same_first = i.same_first; same_next = refl; coming = coming_more _ _ _ _ _ i.coming _ next_is (omega arith) }

pub returns : goal.returns
returns c =
    let i = c.loop-next.invariant in
    let stops = none_left _ _ _ _ _ i.coming (omega (arith, i.coming.within, length-listed c.args.rows.now)) in
    record { came = all_came _ _ _ _ _ i.coming stops; first = i.same_first; ready = rw i.same_next (next_ready _ _ _ _ _ i.coming stops) }
