-- `listing::kind_letter` meets its contract.
use Rattle.listing.proofs.Showing.{letter-less, letter-equal, letter-range}
use Rattle.listing.proofs.kind_letter.Goals as goal

pub returns-in-Less : goal.returns-in-Less
returns-in-Less c = search letter-less

pub returns-in-Equal : goal.returns-in-Equal
returns-in-Equal c = search letter-equal

pub returns-in-Range : goal.returns-in-Range
returns-in-Range c = search letter-range
