-- `values::is_small` meets its contract.
use Rattle.evaluator.proofs.steps.Runs.{small_low, small-high}
use Rattle.evaluator.proofs.steps.values.is_small.Goals as goal

pub returns-then-k-limit : goal.returns-then-k-limit
returns-then-k-limit c = search small_low depth 5

pub returns : goal.returns
returns c = search small-high depth 5
