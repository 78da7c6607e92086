-- `declarations::lists` meets its contract.
use Rattle.declarations.proofs.ListLaws.{ListsOn}
use Rattle.declarations.proofs.lists.Given as goal

abbrev pub invariant-loop-sort : goal.invariant-loop-sort
invariant-loop-sort l = ListsOn l.text l.tokens l.initial.names l.at l.sort-index l.n l.start l.names
