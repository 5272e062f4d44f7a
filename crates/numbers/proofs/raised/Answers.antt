-- The greater of two numbers has the greater rank, and the number of rank x is worked out in 32 bits.
use Rattle.std.proofs.Common.{◌≡◌, ap, ℕ, ◌<◌, arith, w16, w32, pos, ◌-ℤ◌, to_z, of_z}
use mir.ValLaws.{to_z-of_z, to_z_pos}
use Rattle.numbers.specs.HowRanked.{rank}
use Rattle.numbers.proofs.Ranks.{ranked, ranked_fits, rank_ranked, highest}
use Rattle.numbers.proofs.raised.Goals as goal

module _ (x : ℕ) (h : x < 65536) where
  -- the number of rank x, as it is worked out in 32 bits, and in 16
  in_thirty_two : to_z w32 x -ℤ pos 32768 ≡ ranked x
  in_thirty_two = rw (to_z_pos w32 x (omega arith))

  again : to_z w32 (of_z w32 (to_z w32 x -ℤ pos 32768)) ≡ ranked x
  again = rw in_thirty_two (to_z-of_z w32 _ (ranked_fits x (omega arith) w32 (omega arith)))

  in_sixteen : to_z w16 (of_z w16 (to_z w32 (of_z w32 (to_z w32 x -ℤ pos 32768)))) ≡ ranked x
  in_sixteen = rw again (to_z-of_z w16 _ (ranked_fits x (omega arith) w16 (omega arith)))

  signed_rank : rank (to_z w16 (of_z w16 (to_z w32 (of_z w32 (to_z w32 x -ℤ pos 32768))))) ≡ x
  signed_rank = rw in_sixteen (rank_ranked x (omega arith))

pub returns-then-top-signed : goal.returns-then-top-signed
returns-then-top-signed c =
    let x : c.args.x < 65536 = omega arith in
    let top = to_z-of_z w16 c.args.top c.ranges.top in
    let test = rw (top, in_sixteen c.args.x x) at c.if-top-signed.true in
    let greater = rw test at (highest c.args.top c.args.x (omega (arith, c.ranges.top)) x) in
    omega (arith, greater, rank_ranked c.args.x x, signed_rank c.args.x x)

pub returns-else-top-signed : goal.returns-else-top-signed
returns-else-top-signed c =
    let x : c.args.x < 65536 = omega arith in
    let top : to_z w16 (of_z w16 c.args.top) ≡ c.args.top = to_z-of_z w16 c.args.top c.ranges.top in
    let test = rw (top, in_sixteen c.args.x x) at c.if-top-signed.false in
    let greater = rw test at (highest c.args.top c.args.x (omega (arith, c.ranges.top)) x) in
    let same = ap rank top in
    omega (arith, greater, same)
