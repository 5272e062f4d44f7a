-- `listing::Text::put_field` meets its contract.
use Rattle.listing.proofs.Texts.{both}
use Rattle.listing.proofs.Text.put_field.Goals as goal

pub returns : goal.returns
returns c = both c.put_number.ensures c.put_byte.ensures
