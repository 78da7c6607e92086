-- `declarations::due` meets its contract.
use Rattle.declarations.proofs.DueLaws.{DueOn}
use Rattle.tokens.specs.Text.{In}
use Rattle.declarations.proofs.due.Given as goal

abbrev pub invariant-loop-k : goal.invariant-loop-k
invariant-loop-k l = In (DueOn l.list) l.text l.at l.k l.start
