-- `values::known` meets its contract.
use Rattle.evaluator.proofs.steps.Answers.{known_is}
use Rattle.evaluator.proofs.steps.values.known.Goals as goal

pub returns : goal.returns
returns c = search known_is depth 8
