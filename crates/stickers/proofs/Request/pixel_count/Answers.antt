-- `stickers::Request::pixel_count` meets its contract: a pixel has three samples of two bytes.
use Rattle.std.proofs.Common.{sym}
use Rattle.stickers.proofs.Requests.{length_picture}
use Rattle.stickers.proofs.Request.pixel_count.Goals as goal

pub returns : goal.returns
returns c = sym (length_picture c.args.self.src.now)
