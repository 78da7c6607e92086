-- `constraints::read_rows` meets its contract.
use Rattle.constraints.proofs.ListLaws.{ConstraintsOn}
use Rattle.tokens.specs.Text.{In}
use Rattle.constraints.proofs.read_rows.Given as goal

abbrev pub invariant-loop-n : goal.invariant-loop-n
invariant-loop-n l = In ConstraintsOn l.text l.initial.rows l.at l.n l.start l.rows
