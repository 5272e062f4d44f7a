-- `listing::Text::put_listing` meets its contract.
use Rattle.std.proofs.Common.{sym, ap, ◌∙◌}
use Rattle.spool.specs.Open.{open_said}
use Rattle.listing.proofs.Texts.{both}
use Rattle.listing.proofs.Lines.{by_answer}
use Rattle.listing.proofs.Text.put_listing.Goals as goal

pub returns-in-Ok : goal.returns-in-Ok
returns-in-Ok c =
    let said = ap open_said (sym c.in-Ok.is) ∙ c.«open».ensures in
    rw (by_answer c.args.file.now _ c.if-file-gt-INPUT_LIMIT.false said) (both c.put_text.ensures c.put_lines.ensures)
