-- `listing::Text::put_fields` meets its contract.
use lib.ListN.{drop}
use Rattle.listing.specs.Listing.{fields}
use Rattle.listing.proofs.Texts.{Leaves}
use Rattle.listing.proofs.Text.put_fields.Given as goal

abbrev pub invariant-loop-i : goal.invariant-loop-i
invariant-loop-i l = Leaves l.initial.self (fields l.numbers) l.self (fields (drop l.i l.numbers))
