-- `sheet::is_within` meets its contract.
use Rattle.listing.proofs.sheet.Words.{within-test}
use Rattle.listing.proofs.sheet.is_within.Goals as goal

pub returns : goal.returns
returns c = within-test _ _ _ c.is_within.ensures
