-- `listing::Text::put_number` ends: it calls itself at a lesser number.
use Rattle.listing.proofs.Text.+put_number.Given as goal

abbrev pub decreases-put_number : goal.decreases-put_number
decreases-put_number l = l.n
