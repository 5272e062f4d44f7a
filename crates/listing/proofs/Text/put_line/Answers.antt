-- `listing::Text::put_line` meets its contract.
use Rattle.listing.proofs.Texts.{field_then}
use Rattle.listing.proofs.Text.put_line.Goals as goal

pub returns-in-Err : goal.returns-in-Err
returns-in-Err c = rw c.in-Err.is (field_then c.args.frame 32 _ c.put_field.ensures c.put_refusal.ensures)
