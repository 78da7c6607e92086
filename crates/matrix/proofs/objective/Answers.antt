-- `matrix::objective` meets its contract.
use Rattle.matrix.proofs.Adding.{objective-many}
use Rattle.matrix.proofs.objective.Goals as goal

pub returns-then-total-gt-VARIABLE_LIMIT : goal.returns-then-total-gt-VARIABLE_LIMIT
returns-then-total-gt-VARIABLE_LIMIT c = objective-many _ _ _ _ _ _ _ _ _ _ c.if-total-gt-VARIABLE_LIMIT.true
