-- `heads::order_list` meets its contract.
use Rattle.data.proofs.reading.Listings.{OrderOn}
use Rattle.tokens.specs.Text.{In}
use Rattle.data.proofs.reading.heads.order_list.Given as goal

abbrev pub invariant-loop : goal.invariant-loop
invariant-loop l = In OrderOn l.text l.at l.list l.a l.counter
