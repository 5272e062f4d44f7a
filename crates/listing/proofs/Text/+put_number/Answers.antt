-- `listing::Text::put_number` meets its contract.
use Rattle.listing.specs.Text.{decimal}
use Rattle.listing.specs.HowAdded.{Adds}
use Rattle.listing.proofs.Texts.{both, one_digit, more-digits}
use Rattle.listing.proofs.Text.+put_number.Goals as goal
use Rattle.listing.proofs.Text.+put_number.Goals.{then-n-ge10, else-n-ge10}

pub returns : goal.returns
returns t c =
    let at = c.args in
    elim c.if-n-ge10.branch as (λ _. Adds at.self.now (decimal at.n) c.put_byte.new.self) [
      | then-n-ge10 w ↦ rw (more-digits at.n w.if-n-ge10.true) (both w.put_number.ensures (rw w.self-is at c.put_byte.ensures))
      | else-n-ge10 w ↦ rw (one_digit at.n w.if-n-ge10.false) (rw w.self-is at c.put_byte.ensures)
    ]
