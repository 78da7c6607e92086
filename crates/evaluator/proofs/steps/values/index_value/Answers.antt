-- `values::index_value` meets its contract.
use Rattle.evaluator.proofs.steps.Answers.{bound-yes, bound-no}
use Rattle.evaluator.proofs.steps.values.index_value.Goals as goal

pub returns-in-Some : goal.returns-in-Some
returns-in-Some c = search bound-yes depth 8

pub returns-in-None : goal.returns-in-None
returns-in-None c = search bound-no depth 6
