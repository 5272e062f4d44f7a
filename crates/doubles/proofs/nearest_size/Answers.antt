-- `doubles::nearest_size` meets its contract: what the truncation asks, and on which side of the halfway point the double lies.
use Rattle.std.proofs.Common.{true, false, rules}
use Rattle.doubles.proofs.Whole.{tested_range, tested_up, tested_down}
use Rattle.doubles.proofs.nearest_size.Goals as goal

pub truncating_f64_to_u64-whole-requires : goal.truncating_f64_to_u64-whole-requires
truncating_f64_to_u64-whole-requires c =
    let p = tested_range _ _ (search rules) c.if-not-x.false c.if-not-x-top.false in
    record { lower_bound = p.0; upper_bound = p.1 }

pub returns-then-x-halfway : goal.returns-then-x-halfway
returns-then-x-halfway c =
    tested_up _ _ (search rules) c.if-not-x.false c.if-not-x-top.false _ c.truncating_f64_to_u64-whole.ensures _ c.in-Up.is true c.if-x-halfway.true

pub returns-else-x-halfway : goal.returns-else-x-halfway
returns-else-x-halfway c =
    tested_up _ _ (search rules) c.if-not-x.false c.if-not-x-top.false _ c.truncating_f64_to_u64-whole.ensures _ c.in-Up.is false c.if-x-halfway.false

pub returns-then-halfway-x : goal.returns-then-halfway-x
returns-then-halfway-x c =
    tested_down _ _ (search rules) c.if-not-x.false c.if-not-x-top.false _ c.truncating_f64_to_u64-whole.ensures _ c.in-Down.is true c.if-halfway-x.true

pub returns-else-halfway-x : goal.returns-else-halfway-x
returns-else-halfway-x c =
    tested_down _ _ (search rules) c.if-not-x.false c.if-not-x-top.false _ c.truncating_f64_to_u64-whole.ensures _ c.in-Down.is false c.if-halfway-x.false
