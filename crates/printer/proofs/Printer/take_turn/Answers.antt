-- `printer::Printer::take_turn` meets its contract: the arrivals, the next kiosk and its print are the turn of the definition.
use Rattle.printer.proofs.Running.{turn_taken}
use Rattle.printer.proofs.Printer.take_turn.Goals as goal

pub returns : goal.returns
returns c =
    let came = c.arrive.ensures in
    let turn = turn_taken _ c.args.turn c.args.self.now.waiting _ _ c.arrive.new.self.first _ _ _ came.came came.ready c.in_ok-kiosk.ensures.next c.serve.ensures.left c.arrive.new.self.in_round in
    record { byte = rw came.first at turn.0; left = rw came.first at turn.1.0; ready = rw c.serve.ensures.next turn.1.1.0 }
