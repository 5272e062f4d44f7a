-- `stickers::Palette::rank_of` meets its contract: what decides a tie has 16 bits.
use Rattle.std.proofs.Common.{◌≡◌, arith}
use Rattle.stickers.specs.HowTaken.{rank}
use Rattle.stickers.proofs.Palette.rank_of.Goals as goal

pub returns : goal.returns
unfolding rank
returns c =
    let t : c.from-t.result ≡ c.args.t = c.from-t.ensures in
    rw (← t) (omega (arith, c.distance_to.ensures, c.from.ensures, c.from-2.ensures, c.args.self.now.ranked c.from-t.result (omega (arith, c.requires, t))))
