-- `printer::simulate` meets its contract: the turns of an accepted list are fair.
use lib.ListN.{length}
use Rattle.printer.specs.Arrivals.{arrivals}
use Rattle.printer.proofs.Fairness.{fair}
use Rattle.printer.proofs.simulate.Goals as goal

pub returns-clause-fair : goal.returns-clause-fair
returns-clause-fair c = λ turns h. fair (arrivals c.args.numbers.now) _ (length c.args.bytes.now) c.run.ensures
