-- `samples::Limits::sound_start` meets its contract: a pixel that is not at fault is skipped whole.
use Prim.Native.Nat.{◌*◌}
use Rattle.samples.specs.Samples.{two_by_two}
use Rattle.samples.specs.HowJudged.{SoundTo}
use Rattle.samples.proofs.Limits.sound_start.Given as goal

abbrev pub invariant-loop-i : goal.invariant-loop-i
invariant-loop-i l = SoundTo l.self.chroma l.self.greatest (two_by_two l.src) (3 * l.i)
