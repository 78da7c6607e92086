-- `values::run` meets its contract.
use Rattle.evaluator.proofs.steps.Runs.{run_long, run-bound, run-count}
use Rattle.evaluator.proofs.steps.values.run.Goals as goal

pub returns-then-n-gt-RUN_LIMIT : goal.returns-then-n-gt-RUN_LIMIT
returns-then-n-gt-RUN_LIMIT c = search run_long depth 6

pub returns-then-not-takes : goal.returns-then-not-takes
returns-then-not-takes c = search run-bound depth 7

pub returns : goal.returns
returns c = search run-count depth 7
