-- `samples::sample` meets its contract: a sample that is held, and behind the last there is none.
use mathlib.Core.Path.{sym}
use Rattle.samples.proofs.Reading.{behind}
use Rattle.samples.proofs.sample.Goals as goal

pub returns-then-sample_count-k : goal.returns-then-sample_count-k
returns-then-sample_count-k c =
    let a = c.args in
    sym (behind a.wide a.src.now a.k (rw c.sample_count.ensures at c.if-sample_count-k.true))
