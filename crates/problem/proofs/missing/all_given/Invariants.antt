-- `missing::all_given` meets its contract: the names before i have their data.
use Rattle.problem.specs.Missing.Given.{GivenTo}
use Rattle.evaluator.specs.Context.{Over}
use Rattle.problem.proofs.missing.all_given.Given as goal

abbrev pub invariant-loop-i : goal.invariant-loop-i
invariant-loop-i l = Over GivenTo l.stored l.i
