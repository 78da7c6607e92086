-- `names::resolved` meets its contract.
use Rattle.evaluator.proofs.steps.Numbers.{word-other, word-name}
use Rattle.evaluator.proofs.steps.names.resolved.Goals as goal

pub returns-then-w : goal.returns-then-w
returns-then-w c = search word-other

pub returns : goal.returns
returns c = search word-name depth 8
