-- `values::lies` meets its contract.
use Rattle.evaluator.proofs.steps.Runs.{lies-below, lies-above}
use Rattle.evaluator.proofs.steps.values.lies.Goals as goal

pub returns-then-k-l : goal.returns-then-k-l
returns-then-k-l c = search lies-below depth 7

pub returns : goal.returns
returns c = search lies-above depth 8
