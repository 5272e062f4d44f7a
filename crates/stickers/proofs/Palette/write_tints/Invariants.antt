-- `stickers::Palette::write_tints` meets its contract. The invariant: the bytes written, and the tints of the pixels left, give all tints.
use Rattle.std.proofs.Common.{map}
use Rattle.numbers.proofs.Writing.{Written}
use Rattle.stickers.specs.Choices.{tint_of}
use Rattle.stickers.specs.Stickers.{picture_of}
use Rattle.stickers.proofs.Palette.write_tints.Given as goal

abbrev pub invariant-loop-i : goal.invariant-loop-i
invariant-loop-i l = Written (map (tint_of l.self.request.tints.now l.self.four)) (picture_of l.self.request.src.now) l.dst l.i l.i
