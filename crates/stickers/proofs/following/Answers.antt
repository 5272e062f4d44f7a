-- `stickers::following` meets its contract: each way out is its case of the choice after.
use Rattle.stickers.proofs.InOrder.{fourth_grows, third_grows, second-grows, first-grows, last-stays}
use Rattle.stickers.proofs.following.Goals as goal

pub returns-then-d-lt-LAST_TINT : goal.returns-then-d-lt-LAST_TINT
returns-then-d-lt-LAST_TINT c = rw (← fourth_grows c.args.choice c.if-d-lt-LAST_TINT.true) c.four_of.ensures

pub returns-then-c : goal.returns-then-c
returns-then-c c = rw (← third_grows c.args.choice c.if-d-lt-LAST_TINT.false c.if-c.true) c.four_of-then-c.ensures

pub returns-then-b : goal.returns-then-b
returns-then-b c = rw (← second-grows c.args.choice c.if-d-lt-LAST_TINT.false c.if-c.false c.if-b.true) c.four_of-then-b.ensures

pub returns-then-a : goal.returns-then-a
returns-then-a c = rw (← first-grows c.args.choice c.if-d-lt-LAST_TINT.false c.if-c.false c.if-b.false c.if-a.true) c.four_of-then-a.ensures

pub returns : goal.returns
returns c = last-stays _ c.if-d-lt-LAST_TINT.false c.if-c.false c.if-b.false c.if-a.false
