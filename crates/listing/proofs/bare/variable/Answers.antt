-- `bare::variable` meets its contract.
use Rattle.listing.proofs.Writing.{variable-bare, line-end}
use Rattle.listing.proofs.bare.variable.Goals as goal

pub returns : goal.returns
returns c = variable-bare _ _ _ _ c.variable_start-at.ensures.0 (line-end c.put.ensures)
