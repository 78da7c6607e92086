-- `values::fitted` meets its contract.
use Rattle.evaluator.proofs.steps.Answers.{fitted-value, fitted-not}
use Rattle.evaluator.proofs.steps.values.fitted.Goals as goal

pub returns-in-Some : goal.returns-in-Some
returns-in-Some c = fitted-value _ _ _ _ c.in-Some.is

pub returns-in-None : goal.returns-in-None
returns-in-None c = fitted-not _ _ _ c.in-None.is
