-- `values::nth_number` meets its contract.
use Rattle.evaluator.proofs.steps.Runs.{seen, nth-wide, nth_beyond, nth-may, nth_number}
use Rattle.evaluator.proofs.steps.values.nth_number.Goals as goal

pub returns-then-not-is_small : goal.returns-then-not-is_small
returns-then-not-is_small c = search nth-wide depth 6

pub returns-then-j-gt-RUN_LIMIT : goal.returns-then-j-gt-RUN_LIMIT
returns-then-j-gt-RUN_LIMIT c = search nth_beyond depth 6

pub nth-requires : goal.nth-requires
nth-requires c = nth-may (seen c.args.l.lower) _ _ c.is_small.ensures c.if-not-is_small.false-raw c.if-j-gt-RUN_LIMIT.false

pub returns : goal.returns
returns c = search nth_number depth 11
