-- `listing::put` meets its contract.
use Rattle.value.proofs.Writing.{written-past}
use Rattle.listing.proofs.put.Goals as goal

pub returns-then-out-at : goal.returns-then-out-at
returns-then-out-at c = written-past _ _ _ c.if-out-at.true
