-- `sheet::string_at` meets its contract.
use Rattle.listing.proofs.sheet.Words.{string-is}
use Rattle.listing.proofs.sheet.string_at.Goals as goal

pub returns : goal.returns
returns c = string-is _ _ _ _ _ c.word-w.ensures c.part.ensures
