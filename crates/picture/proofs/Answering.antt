-- What a planned conversion answers and leaves is what Convert's definition says.
-- Assumes nothing.
use Prim.Native.Nat.{ℕ}
use mathlib.Core.Path.{◌≡◌, refl, ap, ◌∙◌}
use mathlib.Core.Bool.{true, false}
use mathlib.Core.List.{List}
use lib.ListN.{length}
use Rattle.refusal.specs.Answers.{Said, accepted, refused, refused_at, leaves}
use Rattle.samples.specs.Faults.{source_says}
use Rattle.samples.proofs.Order.{source_exact}
use Rattle.picture.specs.declared.Conversion.{Conversion}
use Rattle.picture.specs.declared.Plan.{Plan}
use Rattle.picture.specs.Convert.{offers, convert_says, converted, convert_bytes, clipped_in, convert_clips}
use Rattle.picture.specs.HowConverted.{writes_wide, made, counted, Plans, plan_says}

-- What is left does not depend on what would be written, unless it is accepted.
same_left : {A : Type 0} (s : Said) (new new' old : A) → ((n : ℕ) → s ≡ accepted n → new ≡ new') → leaves s new old ≡ leaves s new' old
same_left (accepted n) new new' old h = h n refl
same_left (refused k) new new' old h = refl
same_left (refused_at k at) new new' old h = refl

module _ (c : Conversion) (src dst : List ℕ) where
  pub not_offered : offers c ≡ false → convert_says c src (length dst) ≡ refused 9
  unfolding source_says
  not_offered h = rw h

  module _ (plan : Plan) (p : Plans c plan.coding plan.work) where
    pub planned_says : plan_says plan src (length dst) ≡ convert_says c src (length dst)
    planned_says = rw (p.offered, p.coding-is, p.writes)

    pub planned_leaves : leaves (plan_says plan src (length dst)) (made plan.work src) dst ≡ convert_bytes c src dst
    planned_leaves =
        same_left (plan_says plan src (length dst)) (made plan.work src) (converted c src) dst
        (λ n h. p.makes src (source_exact true plan.coding (writes_wide plan.work) src (length dst) n h).whole)
        ∙ ap (λ s. leaves s (converted c src) dst) planned_says

    pub planned_clips : leaves (plan_says plan src (length dst)) (counted plan.work src) 0 ≡ convert_clips c src (length dst)
    planned_clips = rw (p.counts src) (ap (λ s. leaves s (clipped_in c src) 0) planned_says)
