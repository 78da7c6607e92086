-- `heads::separator` meets its contract.
use Rattle.data.proofs.reading.Listings.{separator-last, separator-more}
use Rattle.data.proofs.reading.heads.separator.Goals as goal

pub returns-then-left-eq1 : goal.returns-then-left-eq1
returns-then-left-eq1 c = search separator-last

pub returns-else-left-eq1 : goal.returns-else-left-eq1
returns-else-left-eq1 c = search separator-more
