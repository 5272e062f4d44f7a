-- `samples::Limits::sound_start` meets its contract: a pixel that is not at fault is skipped whole.
use mathlib.Core.Path.{sym, ◌∙◌}
use native.Mathlib.Omega.{arith}
use Rattle.samples.specs.Samples.{two_by_two}
use Rattle.samples.proofs.Reading.{length_two}
use Rattle.samples.proofs.Judging.{sound_more}
use Rattle.samples.proofs.Limits.sound_start.Goals as goal

pub loop-i-preserved : goal.loop-i-preserved
loop-i-preserved c =
    let a = c.args in
    let i = c.loop-i.i in
    let sound = rw c.pixel_at.ensures at (sym c.at_fault.ensures ∙ c.if-at_fault.false) in
    sound_more a.self.chroma a.self.greatest (two_by_two a.src.now) i (omega (arith, length_two a.src.now)) sound c.loop-i.invariant
