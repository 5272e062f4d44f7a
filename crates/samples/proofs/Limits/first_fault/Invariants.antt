-- What is left of the samples says what all say.
use mathlib.Core.Path.{◌≡◌}
use lib.ListN.{drop}
use Rattle.samples.specs.declared.Coding.TheVariants.{Codes}
use Rattle.refusal.specs.Answers.{accepted}
use Rattle.samples.specs.Samples.{two_by_two}
use Rattle.samples.specs.Faults.{samples_say}
use Rattle.samples.proofs.Limits.first_fault.Given as goal

abbrev pub invariant-loop-k : goal.invariant-loop-k
invariant-loop-k l = samples_say (Codes l.self.greatest l.self.chroma) (accepted l.count) 0 (two_by_two l.src) ≡ samples_say (Codes l.self.greatest l.self.chroma) (accepted l.count) l.k (drop l.k (two_by_two l.src))
