-- `samples::wide_sample` meets its contract: the two bytes are the sample's.
use mathlib.Core.Path.{sym, ◌∙◌}
use Rattle.samples.proofs.Reading.{two_at}
use Rattle.samples.proofs.wide_sample.Goals as goal

pub returns : goal.returns
returns c =
    c.from_two.ensures ∙ sym (two_at c.args.src.now c.args.k c.requires)
