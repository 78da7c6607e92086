-- `values::product` meets its contract.
use Rattle.evaluator.proofs.steps.Answers.{fitted-same}
use Rattle.evaluator.proofs.steps.values.product.Goals as goal

pub returns : goal.returns
returns c = search fitted-same depth 6
