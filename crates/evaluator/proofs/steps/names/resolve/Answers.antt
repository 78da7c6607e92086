-- `names::resolve` meets its contract.
use Rattle.evaluator.proofs.steps.Numbers.{resolving-start, resolving-more, resolving-end}
use Rattle.evaluator.proofs.steps.names.resolve.Goals as goal

pub loop-word-init : goal.loop-word-init
loop-word-init c = resolving-start _ _ _

pub loop-word-preserved : goal.loop-word-preserved
loop-word-preserved c = search resolving-more depth 6

pub returns : goal.returns
returns c = search resolving-end depth 5
