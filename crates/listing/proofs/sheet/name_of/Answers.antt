-- `sheet::name_of` meets its contract.
use Rattle.listing.proofs.sheet.Words.{name-is}
use Rattle.listing.proofs.sheet.name_of.Goals as goal

pub returns : goal.returns
returns c = name-is _ _ _ _ _ _ c.word_of-place.ensures c.word_of-bytes.ensures c.part.ensures
