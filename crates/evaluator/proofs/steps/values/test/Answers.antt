-- `values::test` meets its contract.
use Rattle.evaluator.proofs.steps.Runs.{test_low, test-high, test-inside}
use Rattle.evaluator.proofs.steps.values.test.Goals as goal

pub returns-then-k-l : goal.returns-then-k-l
returns-then-k-l c = search test_low depth 7

pub returns-then-l-k : goal.returns-then-l-k
returns-then-l-k c = search test-high depth 9

pub returns : goal.returns
returns c = search test-inside depth 10
