-- `matrix::objective_row` meets its contract.
use Rattle.matrix.proofs.Adding.{objective-is}
use Rattle.matrix.proofs.objective_row.Goals as goal

pub returns : goal.returns
returns c = search objective-is depth 10
