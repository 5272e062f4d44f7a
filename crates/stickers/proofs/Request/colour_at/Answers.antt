-- `stickers::Request::colour_at` meets its contract: a pixel of a picture of codes is one of codes.
use Rattle.samples.specs.Samples.{two_by_two}
use Rattle.stickers.proofs.Nearest.{pixel-codes}
use Rattle.stickers.proofs.Request.colour_at.Goals as goal

pub invariant_of-result : goal.invariant_of-result
invariant_of-result c = record { codes = rw c.pixel_at.ensures (pixel-codes (two_by_two c.args.self.src.now) c.args.self.codes c.args.i) }
