-- `sheet::title_of` meets its contract.
use Rattle.listing.proofs.sheet.Words.{title-is}
use Rattle.listing.proofs.sheet.title_of.Goals as goal

pub returns : goal.returns
returns c = title-is _ _ _ _ _ _ c.row_at-row.ensures c.string_at.ensures
