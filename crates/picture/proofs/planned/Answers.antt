-- `picture::planned` meets its contract: in each arm the conversion and its depths are known, and the loop is the one that does it.
use mathlib.Core.Path.{refl, ap, ap₂, ◌∙◌}
use Rattle.picture.specs.declared.Conversion.TheVariants.{FromSrgb, ToSrgb, ChangeDepth}
use Rattle.picture.specs.declared.Work.TheVariants.{Widen, Change}
use Rattle.picture.proofs.Planning.{same_plan, plan_from_srgb, plan_to_srgb, plan_change}
use Rattle.picture.proofs.planned.Goals as goal

pub returns-in_ok-depth-in-FromSrgb : goal.returns-in_ok-depth-in-FromSrgb
returns-in_ok-depth-in-FromSrgb c =
    same_plan (c.in-FromSrgb.is ∙ ap FromSrgb c.in_ok-depth-in-FromSrgb.ensures) refl (ap Widen c.line_of.ensures) (plan_from_srgb _)

pub returns-in_ok-depth-in-ToSrgb : goal.returns-in_ok-depth-in-ToSrgb
returns-in_ok-depth-in-ToSrgb c = same_plan (c.in-ToSrgb.is ∙ ap ToSrgb c.in_ok-depth-in-ToSrgb.ensures) c.codes.ensures refl (plan_to_srgb _)

pub returns-in_ok-target-in-ChangeDepth : goal.returns-in_ok-target-in-ChangeDepth
returns-in_ok-target-in-ChangeDepth c =
    same_plan (c.in-ChangeDepth.is ∙ ap₂ ChangeDepth c.in_ok-source-in-ChangeDepth.ensures c.in_ok-target-in-ChangeDepth.ensures) c.codes-in-ChangeDepth.ensures
    (ap Change c.change_of.ensures) (plan_change _ _)
