-- `names::name_at` meets its contract.
use Rattle.evaluator.proofs.steps.Numbers.{listed-none, listed-name}
use Rattle.evaluator.proofs.steps.names.name_at.Goals as goal

pub returns-then-n-eq0 : goal.returns-then-n-eq0
returns-then-n-eq0 c = search listed-none depth 6

pub returns : goal.returns
returns c = search listed-name depth 8
