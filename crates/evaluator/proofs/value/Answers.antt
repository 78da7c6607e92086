-- `value` meets its contract.
use Rattle.evaluator.proofs.Laws.{value-formula}
use Rattle.evaluator.proofs.value.Goals as goal

pub returns : goal.returns
returns c = search value-formula depth 4
