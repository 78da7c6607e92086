-- `names::index_number` meets its contract.
use Rattle.evaluator.proofs.steps.Numbers.{index-past, index-other, index-none, index-late, index-name}
use Rattle.evaluator.proofs.steps.names.index_number.Goals as goal

pub returns-then-tokens-at : goal.returns-then-tokens-at
returns-then-tokens-at c = search index-past

pub returns-then-tokens-at-2 : goal.returns-then-tokens-at-2
returns-then-tokens-at-2 c = search index-other

pub returns-then-n-eq0 : goal.returns-then-n-eq0
returns-then-n-eq0 c = search index-none depth 6

pub returns-then-level-i : goal.returns-then-level-i
returns-then-level-i c = search index-late depth 7

pub returns : goal.returns
returns c = search index-name depth 7
