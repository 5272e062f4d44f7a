-- `picture::fill_samples` meets its contract. The invariant: the samples so far are written, each by the rule.
use Rattle.samples.specs.Samples.{place, samples_of}
use Rattle.numbers.proofs.Writing.{Written}
use Rattle.picture.proofs.Filling.{bytes_by}
use Rattle.picture.proofs.fill_samples.Given as goal

abbrev pub invariant-loop-k : goal.invariant-loop-k
invariant-loop-k g l = Written (bytes_by l.wide_out (g.R.SampleRule.applied l.rule)) (samples_of l.wide_in l.src) l.dst (place l.wide_out l.k) l.k
