-- `cases::put` meets its contract.
use Rattle.listing.proofs.Writing.{written_from}
use Rattle.cases.proofs.put.Goals as goal

pub returns : goal.returns
returns c = search written_from depth 8
