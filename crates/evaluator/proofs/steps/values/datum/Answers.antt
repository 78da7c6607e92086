-- `values::datum` meets its contract.
use Rattle.evaluator.proofs.steps.Answers.{datum-no, datum-yes}
use Rattle.evaluator.proofs.steps.values.datum.Goals as goal

pub returns-in-Some : goal.returns-in-Some
returns-in-Some c = search datum-yes depth 7

pub returns-in-None : goal.returns-in-None
returns-in-None c = search datum-no depth 6
