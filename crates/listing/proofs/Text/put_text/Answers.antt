-- `listing::Text::put_text` meets its contract.
use lib.ListN.{drop, drop_of_length-le}
use Rattle.std.proofs.Common.{◌+◌}
use Rattle.listing.proofs.Texts.{byte_first, more, all_added}
use Rattle.listing.proofs.Text.put_text.Goals as goal

pub loop-byte-preserved : goal.loop-byte-preserved
loop-byte-preserved c =
    let text = c.args.text.now in
    let i = c.loop-byte.byte-index in
    more _ (drop (i + 1) text) c.loop-byte.invariant c.put_byte.ensures (byte_first text i c.loop-byte-test.true)

pub returns : goal.returns
returns c = all_added c.loop-byte.invariant (drop_of_length-le c.args.text.now c.loop-byte-test.false)
