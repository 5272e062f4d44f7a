-- `listing::Text::put_fields` meets its contract.
use Rattle.std.proofs.Common.{◌≡◌, [], ◌∷◌, ◌++◌, ◌+◌, ap, drop, get_or}
use lib.ListN.{drop_of_length-le}
use Rattle.listing.specs.Text.{decimal}
use Rattle.listing.specs.Listing.{fields}
use Rattle.listing.proofs.Texts.{more, all_added}
use Rattle.listing.proofs.Lines.{field_more, field_last}
use Rattle.listing.proofs.Text.put_fields.Goals as goal
use Rattle.listing.proofs.Text.put_fields.Goals.{then-i-numbers, else-i-numbers}

pub loop-i-preserved : goal.loop-i-preserved
loop-i-preserved c =
    let ns = c.args.numbers.now in
    let i = c.loop-i.i in
    let end = c.if-i-numbers.end in
    more _ (fields (drop (i + 1) ns)) c.loop-i.invariant c.put_field.ensures
    (elim c.if-i-numbers.branch as (λ _. fields (drop i ns) ≡ (decimal (get_or ns i 0) ++ (end ∷ [])) ++ fields (drop (i + 1) ns)) [
      | then-i-numbers w ↦ field_more ns i c.loop-i-test.true end w.if-i-numbers.true w.end-is
      | else-i-numbers w ↦ field_last ns i c.loop-i-test.true end w.if-i-numbers.false w.end-is
    ])

pub returns : goal.returns
returns c = all_added c.loop-i.invariant (ap fields (drop_of_length-le c.args.numbers.now c.loop-i-test.false))
