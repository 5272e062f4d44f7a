-- `picture::pixel_plan` meets its contract: at a depth that is offered, the loop of the rule does its conversion.
use mathlib.Core.Path.{refl, ap}
use Rattle.picture.specs.declared.Sides.{Sides}
use Rattle.picture.specs.HowConverted.{done_by}
use Rattle.picture.proofs.Planning.{same_plan, plan_pixels}
use Rattle.picture.proofs.pixel_plan.Goals as goal

pub returns : goal.returns
returns c =
    same_plan (ap (done_by c.args.rule) c.in_ok-depth.ensures) (ap (λ (s : Sides). s.reads) c.sides_of.ensures) refl (plan_pixels c.args.rule _)
