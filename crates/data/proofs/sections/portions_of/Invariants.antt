-- `sections::portions_of` meets its contract.
use Rattle.data.proofs.Filling.{PortionsOn}
use Rattle.tokens.specs.Text.{In}
use Rattle.data.proofs.sections.portions_of.Given as goal

abbrev pub invariant-loop : goal.invariant-loop
invariant-loop l = In PortionsOn l.text l.at l.a l.count l.counter l.table
