-- `entries` meets its contract.
use Rattle.constraints.proofs.DomainLaws.{Counting}
use Rattle.tokens.specs.Text.{In}
use Rattle.constraints.proofs.shape.entries.Given as goal

abbrev pub invariant-loop-n : goal.invariant-loop-n
invariant-loop-n l = In Counting l.text l.at l.start l.n
