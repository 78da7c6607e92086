-- `matrix::constraints` meets its contract.
use Rattle.matrix.proofs.Listing.{too_many, few-enough}
use Rattle.matrix.proofs.constraints.Goals as goal

pub returns-then-total-gt-VARIABLE_LIMIT : goal.returns-then-total-gt-VARIABLE_LIMIT
returns-then-total-gt-VARIABLE_LIMIT c = search too_many depth 3

pub returns : goal.returns
returns c = search few-enough depth 3
