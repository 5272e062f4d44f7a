-- `stickers::fill_block` meets its contract: one column more at each turn.
use Rattle.std.proofs.Common.{◌≡◌, ◌*◌, ◌≤◌, length}
use Rattle.stickers.specs.Choices.{least_of_all}
use Rattle.stickers.specs.Stickers.{picture_of}
use Rattle.stickers.specs.HowSummed.{BlockOf, most_entry, entry_count}
use Rattle.stickers.proofs.Blocks.{SumTo}
use Rattle.stickers.proofs.fill_block.Given as goal

abbrev pub invariant-loop-k : goal.invariant-loop-k
invariant-loop-k l =
    (l.sum ≤ most_entry * l.k) × (length l.rows ≡ entry_count) × SumTo (least_of_all l.request.tints.now) (picture_of l.request.src.now) l.start l.k l.sum × BlockOf l.request.tints.now (picture_of l.request.src.now) l.start l.k l.rows
