-- `linear::linear` meets its contract.
use Rattle.linear.proofs.Laws.{linear-form}
use Rattle.linear.proofs.linear.Goals as goal

pub returns : goal.returns
returns c = search linear-form
