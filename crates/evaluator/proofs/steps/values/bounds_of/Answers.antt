-- `values::bounds_of` meets its contract.
use Rattle.evaluator.proofs.steps.Answers.{bounds-are}
use Rattle.evaluator.proofs.steps.values.bounds_of.Goals as goal

pub returns : goal.returns
returns c = search bounds-are depth 5
