-- `linear::search::LevelSearch::code_of` meets its contract: a level in bounds, with the sign of the light, is its clipped code.
use mathlib.Core.Path.{ap, ◌∙◌}
use native.Mathlib.Omega.{arith}
use lib.IntN.{nat_abs}
use Rattle.esrgb.proofs.Scale.{scale}
use Rattle.linear.proofs.Sign.{read, test_is}
use Rattle.linear.proofs.Codes.{code_below, code-above}
use Rattle.linear.proofs.search.LevelSearch.code_of.Goals as goal

pub returns-then-light-lt0 : goal.returns-then-light-lt0
returns-then-light-lt0 c =
    let a = c.args in
    omega (
      arith,
      c.saturating_sub.ensures,
      code_below _ _ (scale a.self.depth) c.step_of-offset.ensures _ _ c.level_of-level.ensures a.light
          (c.unsigned_abs.ensures.value ∙ ap nat_abs (read _ c.ranges.light)) (test_is _ c.ranges.light _ c.if-light-lt0.true),
    )

pub returns-else-light-lt0 : goal.returns-else-light-lt0
returns-else-light-lt0 c =
    let a = c.args in
    code-above _ _ (scale a.self.depth) c.step_of-offset.ensures _ _ c.level_of-level.ensures a.light
    (c.unsigned_abs.ensures.value ∙ ap nat_abs (read _ c.ranges.light)) (test_is _ c.ranges.light _ c.if-light-lt0.false)
