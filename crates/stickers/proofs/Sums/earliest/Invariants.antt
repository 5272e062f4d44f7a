-- `stickers::Sums::earliest` meets its contract: one choice more at each turn.
use Rattle.std.proofs.Common.{◌≡◌, ◌+◌, ℕ, ◌<◌, length, get_or}
use Rattle.stickers.specs.declared.Four.{Four}
use Rattle.stickers.specs.Choices.{choices, first_choice}
use Rattle.stickers.specs.HowSummed.{after, SumsOf}
use Rattle.stickers.proofs.Best.{Searching}
use Rattle.stickers.proofs.Sums.earliest.Given as goal

abbrev pub invariant-loop-sum : goal.invariant-loop-sum
invariant-loop-sum l =
    (l.sum-index + 1 < length choices → after l.four ≡ get_or choices (l.sum-index + 1) first_choice) × ((sum : Four → ℕ) → SumsOf sum l.self.limit l.self.all → Searching sum l.self.limit l.best (l.sum-index + 1))
