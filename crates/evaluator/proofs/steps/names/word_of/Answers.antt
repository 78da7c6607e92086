-- `names::word_of` meets its contract.
use Rattle.evaluator.proofs.steps.Numbers.{row_here, row-past, row-beyond, row-wide}
use Rattle.evaluator.proofs.steps.names.word_of.Goals as goal

pub returns-then-names-i : goal.returns-then-names-i
returns-then-names-i c = search row-beyond

pub returns-then-names-f : goal.returns-then-names-f
returns-then-names-f c = search row-wide

pub returns-then-names-k : goal.returns-then-names-k
returns-then-names-k c = search row-past

pub returns : goal.returns
returns c = search row_here
