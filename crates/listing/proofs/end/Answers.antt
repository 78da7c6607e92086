-- `listing::end` meets its contract.
use Rattle.listing.proofs.Writing.{end_line}
use Rattle.listing.proofs.end.Goals as goal

pub returns : goal.returns
returns c = end_line c.put_text.ensures
