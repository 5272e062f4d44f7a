-- `listing::Text::put_refusal` meets its contract.
use Rattle.listing.proofs.Texts.{both}
use Rattle.listing.proofs.Text.put_refusal.Goals as goal

pub returns : goal.returns
returns c = both c.put_text.ensures (rw c.number.ensures at c.put_field.ensures)
