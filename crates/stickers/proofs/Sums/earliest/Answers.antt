-- `stickers::Sums::earliest` meets its contract: one choice more at each turn.
use lib.Seq.{get_or-take}
use Rattle.std.proofs.lemmas.Grind.{get_or_after_one}
use Rattle.std.proofs.Common.{◌≡◌, ◌+◌, ◌-◌, add_comm, drop, get_or, sym, ap, ◌∙◌, arith, rules}
use Rattle.std.proofs.lemmas.List.Sorted.{answers_always}
use Rattle.stickers.specs.Choices.{choices, first_choice}
use Rattle.stickers.specs.HowSummed.{after}
use Rattle.stickers.proofs.InOrder.{first-at, next_at}
use Rattle.stickers.proofs.Best.{searching_first, searching_more, searching_done, first_least}
use Rattle.stickers.proofs.Sums.earliest.Goals as goal

pub loop-sum-init : goal.loop-sum-init
loop-sum-init c =
    let self = c.args.self.now in
    let is = c.four_of-four.ensures in (
      λ h. ap after (is ∙ sym first-at) ∙ sym (next_at 0 h),
      λ sum sums. searching_first sum self.limit self.within _ self.some is (sums 0 self.some ∙ ap sum first-at),
    )

pub loop-sum-preserved : goal.loop-sum-preserved
loop-sum-preserved c =
    let self = c.args.self.now in
    let k = c.loop-sum.sum-index + 1 in
    let is : c.following-four.result ≡ get_or choices k first_choice = c.following-four.ensures ∙ c.loop-sum.invariant.0 (omega (arith, self.within)) in
    let read =
    get_or-take (self.limit - 1) (drop 1 self.all) c.loop-sum.sum-index 0 (omega arith)
    ∙ get_or_after_one self.all c.loop-sum.sum-index 0
    ∙ ap (λ j. get_or self.all j 0) (add_comm 1 c.loop-sum.sum-index) in (
      λ h. ap after is ∙ sym (next_at k h),
      λ sum sums. searching_more sum self.limit self.within c.loop-sum.best _ _ k (omega arith) is (read ∙ sums k (omega arith)) (c.min_by_key-best.ensures (λ x. x.sum) (answers_always _ _ _ (λ f a r g h. search rules)) ∙ first_least c.loop-sum.best _) (c.loop-sum.invariant.1 sum sums),
    )

pub returns : goal.returns
returns c =
    let self = c.args.self.now in
    λ sum sums. searching_done sum self.limit self.within c.loop-sum.best _ (omega arith) (c.loop-sum.invariant.1 sum sums)
