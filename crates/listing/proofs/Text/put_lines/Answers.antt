-- `listing::Text::put_lines` meets its contract.
use Rattle.std.proofs.Common.{◌+◌, ◌-◌}
use Rattle.listing.specs.Listing.{lines}
use Rattle.listing.proofs.Texts.{more, all_added}
use Rattle.listing.proofs.Lines.{line_first, no_lines}
use Rattle.listing.proofs.Text.put_lines.Goals as goal

pub loop-frame-preserved : goal.loop-frame-preserved
loop-frame-preserved c =
    let at = c.args in
    let k = c.loop-frame.frame in
    more _ (lines at.file.now (at.count - (k + 1)) (k + 1)) c.loop-frame.invariant (rw c.find.ensures at c.put_line.ensures)
    (line_first at.file.now at.count k c.loop-frame-test.true)

pub returns : goal.returns
returns c = all_added c.loop-frame.invariant (no_lines c.args.file.now c.args.count c.loop-frame.frame c.loop-frame-test.false)
