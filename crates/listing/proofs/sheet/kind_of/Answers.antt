-- `sheet::kind_of` meets its contract.
use Rattle.listing.proofs.Showing.{kind-equal, kind-less, kind-range}
use Rattle.listing.proofs.sheet.kind_of.Goals as goal

pub returns-then-equal : goal.returns-then-equal
returns-then-equal c = search kind-equal

pub returns-in-None : goal.returns-in-None
returns-in-None c = search kind-less depth 6

pub returns-in-Some : goal.returns-in-Some
returns-in-Some c = search kind-range depth 7
