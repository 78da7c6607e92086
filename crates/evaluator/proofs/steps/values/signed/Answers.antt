-- `values::signed` meets its contract.
use Rattle.evaluator.proofs.steps.Answers.{signed-minus, signed-plus}
use Rattle.evaluator.proofs.steps.values.signed.Goals as goal

pub returns-then-minus : goal.returns-then-minus
returns-then-minus c = search signed-minus depth 6

pub returns : goal.returns
returns c = search signed-plus depth 6
