-- `missing::domain_given` meets its contract: the elements from the one to come on are still to be asked.
use Rattle.std.specs.Prelude.{Option, Result}
use Rattle.rules.specs.declared.Refused.{Refused}
use Rattle.elements.specs.declared.here.Here.{Here}
use Rattle.elements.specs.Walk.{ToCome}
use Rattle.elements.proofs.Walking.{Reads}
use Rattle.problem.specs.Missing.Given.{Asking}
use Rattle.evaluator.specs.Context.{Over}
use Rattle.problem.proofs.missing.domain_given.Given as goal

abbrev pub invariant-loop-here : goal.invariant-loop-here
invariant-loop-here l = ((x : Result (Option Here) Refused) → ToCome l.here-iterator x → Over Asking l.stored l.i x) × Reads l.stored l.i l.here-iterator
