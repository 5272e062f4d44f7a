-- `stickers::Sums::add_picture` meets its contract: one block more at each turn.
use Rattle.std.proofs.Common.{◌≡◌}
use Rattle.stickers.specs.Stickers.{picture_of}
use Rattle.stickers.proofs.Blocks.{Summing}
use Rattle.stickers.proofs.Sums.add_picture.Given as goal

abbrev pub invariant-loop-start : goal.invariant-loop-start
invariant-loop-start l =
    (l.self.limit ≡ l.initial.self.limit) × Summing l.request.tints.now (picture_of l.request.src.now) l.initial.self.limit l.self.all l.least l.start
