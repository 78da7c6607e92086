-- `heads::list` meets its contract.
use Rattle.data.proofs.reading.Listings.{Listing}
use Rattle.tokens.specs.Text.{In}
use Rattle.data.proofs.reading.heads.list.Given as goal

abbrev pub invariant-loop-left : goal.invariant-loop-left
invariant-loop-left l = In Listing l.text l.at l.count l.list l.a l.left
