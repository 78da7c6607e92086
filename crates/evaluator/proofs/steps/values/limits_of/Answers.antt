-- `values::limits_of` meets its contract.
use Rattle.evaluator.proofs.steps.Answers.{limits-are}
use Rattle.evaluator.proofs.steps.values.limits_of.Goals as goal

pub returns : goal.returns
returns c = search limits-are depth 9
