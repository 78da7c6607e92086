-- `values::span` meets its contract.
use Rattle.evaluator.proofs.steps.Runs.{span_fits, span-cast, span-sum, span-count}
use Rattle.evaluator.proofs.steps.values.span.Goals as goal

pub overflow_sub-result : goal.overflow_sub-result
overflow_sub-result c = search span_fits depth 6

pub overflow_cast-result : goal.overflow_cast-result
overflow_cast-result c = span-cast _ _ c.ranges.a c.ranges.b c.requires

pub overflow_add-result : goal.overflow_add-result
overflow_add-result c = search span-sum depth 6

pub returns : goal.returns
returns c = search span-count depth 6
