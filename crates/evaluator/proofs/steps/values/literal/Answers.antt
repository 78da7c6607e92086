-- `values::literal` meets its contract.
use Rattle.evaluator.proofs.steps.Answers.{literal-is}
use Rattle.evaluator.proofs.steps.values.literal.Goals as goal

pub returns : goal.returns
returns c = search literal-is depth 5
