-- `values::bind_nth` meets its contract.
use Rattle.evaluator.proofs.steps.Runs.{nth-bound}
use Rattle.evaluator.proofs.steps.values.bind_nth.Goals as goal

pub returns : goal.returns
returns c = search nth-bound depth 6
