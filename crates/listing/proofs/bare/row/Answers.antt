-- `bare::row` meets its contract.
use Rattle.listing.proofs.Writing.{row-bare, line-end}
use Rattle.listing.proofs.bare.row.Goals as goal

pub returns : goal.returns
returns c = row-bare _ _ _ c.row_start-at.ensures.0 (line-end c.put.ensures)
