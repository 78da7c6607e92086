-- `add_name` meets its contract.
use Rattle.evaluator.specs.Context.{Over}
use Rattle.elements.specs.Walk.{ToCome}
use Rattle.elements.proofs.Walking.{Reads}
use Rattle.problem.proofs.variables.Names.{NameOn}
use Rattle.problem.proofs.variables.add_name.Given as goal

abbrev pub invariant-loop-here : goal.invariant-loop-here
invariant-loop-here l = Over NameOn l.stored l.i l.from l.initial.variables l.variables l.n (ToCome l.here-iterator) × Reads l.stored l.i l.here-iterator
