-- `passing::behind_bracket` meets its contract.
use Rattle.evaluator.proofs.steps.Passed.{Open}
use Rattle.evaluator.proofs.steps.passing.behind_bracket.Given as goal

abbrev pub invariant-loop-i : goal.invariant-loop-i
invariant-loop-i l = Open l.tokens l.at l.i l.depth
