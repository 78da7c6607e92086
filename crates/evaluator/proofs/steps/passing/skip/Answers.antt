-- `passing::skip` meets its contract.
use Rattle.evaluator.proofs.steps.Passed.{skips-past, skips-one}
use Rattle.evaluator.proofs.steps.passing.skip.Goals as goal

pub returns-then-tokens-at : goal.returns-then-tokens-at
returns-then-tokens-at c = search skips-past

pub returns : goal.returns
returns c = search skips-one
