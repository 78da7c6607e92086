-- `cases::nonzero` meets its contract.
use Rattle.cases.proofs.Laws.{Counted}
use Rattle.cases.proofs.nonzero.Given as goal

abbrev pub invariant-loop-b : goal.invariant-loop-b
invariant-loop-b l = Counted l.bytes l.b-index l.count
