-- `declarations::read_indices` meets its contract.
use Rattle.declarations.proofs.IndexLaws.{IndicesOn}
use Rattle.tokens.specs.Text.{In}
use Rattle.declarations.proofs.read_indices.Given as goal

abbrev pub invariant-loop-n : goal.invariant-loop-n
invariant-loop-n l = In IndicesOn l.text l.at l.n l.start l.numbers
