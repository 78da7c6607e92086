-- `names::number_at` meets its contract.
use Rattle.evaluator.proofs.steps.Numbers.{number_past}
use Rattle.evaluator.proofs.steps.names.number_at.Goals as goal

pub returns-then-tokens-at : goal.returns-then-tokens-at
returns-then-tokens-at c = search number_past
