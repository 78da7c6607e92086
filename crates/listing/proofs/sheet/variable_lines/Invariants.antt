-- `sheet::variable_lines` meets its contract.
use Rattle.listing.specs.Sheet.Told.{VariableTold}
use Rattle.listing.proofs.sheet.Writing.{Writing}
use Rattle.listing.proofs.sheet.variable_lines.Given as goal

abbrev pub invariant-loop-j : goal.invariant-loop-j
invariant-loop-j l = Writing (VariableTold l.text l.names l.variables l.bounds l.discrete) l.n l.j l.initial.out l.at l.out l.next
