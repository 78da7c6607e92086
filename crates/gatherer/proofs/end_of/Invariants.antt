-- `end_of` meets its contract.
use Rattle.gatherer.proofs.Endings.{EndingOn}
use Rattle.evaluator.specs.Context.{Under}
use Rattle.gatherer.proofs.end_of.Given as goal

abbrev pub invariant-loop : goal.invariant-loop
invariant-loop l = Under (EndingOn l.cx.nest l.sigmas) l.cx l.at l.initial.u l.counter l.a l.u
