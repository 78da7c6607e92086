-- `values::whole` meets its contract.
use Rattle.evaluator.proofs.steps.Answers.{whole-yes, whole-no}
use Rattle.evaluator.proofs.steps.values.whole.Goals as goal

pub returns-in-Ok : goal.returns-in-Ok
returns-in-Ok c = search whole-yes depth 6

pub returns-in-Err : goal.returns-in-Err
returns-in-Err c = search whole-no depth 6
