-- `within_fixed` meets its contract.
use Rattle.evaluator.proofs.Alone.{FixedOn}
use Rattle.evaluator.specs.Context.{Over}
use Rattle.evaluator.proofs.within_fixed.Given as goal

abbrev pub invariant-loop-j : goal.invariant-loop-j
invariant-loop-j l = Over FixedOn l.stored l.level l.at l.e l.p l.a l.j
