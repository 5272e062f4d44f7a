-- `listing::write_listing` meets its contract.
use borrow.Author.Rules.{rules}
use Rattle.listing.proofs.Fits.{in_buffer}
use Rattle.listing.proofs.write_listing.Goals as goal

pub returns-clause-within : goal.returns-clause-within
returns-clause-within c =
    (in_buffer c.args.file.now c.args.out.now (λ i. (c.type_inv.file i).fits) (record { bytes = _; at = c.put_listing.new.self.at }) (search rules)).0

pub returns-clause-whole : goal.returns-clause-whole
returns-clause-whole c =
    (in_buffer c.args.file.now c.args.out.now (λ i. (c.type_inv.file i).fits) (record { bytes = _; at = c.put_listing.new.self.at }) (search rules)).1
