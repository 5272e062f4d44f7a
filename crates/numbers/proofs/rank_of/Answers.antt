-- The sum of the number and 32,768 is the rank, and it fits.
use Rattle.std.proofs.Common.{◌≡◌, ◌<◌, arith, w16, w32, pos, ◌+ℤ◌, to_z, of_z}
use mir.Val.{SFits}
use mir.ValLaws.{to_z-of_z}
use Rattle.numbers.specs.HowRanked.{rank}
use Rattle.numbers.proofs.Ranks.{rank-sum, rank-fits}
use Rattle.numbers.proofs.rank_of.Goals as goal

pub returns : goal.returns
returns c =
    let top : to_z w16 (of_z w16 c.args.top) ≡ c.args.top = to_z-of_z w16 c.args.top c.ranges.top in
    let most : rank c.args.top < 65536 = rank-fits c.args.top (omega (arith, c.ranges.top)) in
    let wide : SFits w32 c.args.top = record { sfits = omega (arith, c.ranges.top) } in
    let sum : c.args.top +ℤ pos 32768 ≡ pos (rank c.args.top) = rank-sum c.args.top (omega (arith, c.ranges.top)) in
    let fits : SFits w32 (pos (rank c.args.top)) = record { sfits = omega (arith, most) } in
    rw (top, to_z-of_z w32 c.args.top wide, sum, to_z-of_z w32 (pos (rank c.args.top)) fits)
