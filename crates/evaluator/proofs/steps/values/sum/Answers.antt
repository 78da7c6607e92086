-- `values::sum` meets its contract.
use Rattle.evaluator.proofs.steps.Answers.{sum_same}
use Rattle.evaluator.proofs.steps.values.sum.Goals as goal

pub returns : goal.returns
returns c = search sum_same depth 7
