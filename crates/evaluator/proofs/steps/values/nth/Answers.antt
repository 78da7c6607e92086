-- `values::nth` meets its contract.
use Rattle.evaluator.proofs.steps.Runs.{nth-cast, nth-fits, nth-is}
use Rattle.evaluator.proofs.steps.values.nth.Goals as goal

pub overflow_cast-result : goal.overflow_cast-result
overflow_cast-result c = nth-cast _ _ c.ranges.a c.requires.0 c.requires.1

pub overflow_add-result : goal.overflow_add-result
overflow_add-result c = search nth-fits depth 6

pub returns : goal.returns
returns c = search nth-is depth 6
