-- `sheet::row_line` meets its contract.
use Rattle.listing.proofs.sheet.Writing.{row-both}
use Rattle.listing.proofs.sheet.row_line.Goals as goal

pub returns : goal.returns
returns c = search row-both depth 9
