-- `listing::Text::put_text` meets its contract.
use lib.ListN.{drop}
use Rattle.listing.proofs.Texts.{Leaves}
use Rattle.listing.proofs.Text.put_text.Given as goal

abbrev pub invariant-loop-byte : goal.invariant-loop-byte
invariant-loop-byte l = Leaves l.initial.self l.text l.self (drop l.byte-index l.text)
