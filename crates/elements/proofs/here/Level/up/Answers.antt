-- `Level::up` meets its contract.
use Rattle.elements.proofs.Numbers.{up_same, up_fits, up-number}
use Rattle.elements.proofs.here.Level.up.Goals as goal

pub returns-then-not-has_more : goal.returns-then-not-has_more
returns-then-not-has_more c = search up_same

pub overflow_add-result : goal.overflow_add-result
overflow_add-result c = search up_fits depth 7

pub returns : goal.returns
returns c = search up-number depth 7
