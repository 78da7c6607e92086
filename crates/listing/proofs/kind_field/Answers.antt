-- `listing::kind_field` meets its contract.
use Rattle.listing.proofs.kind_field.Goals as goal

pub returns : goal.returns
returns c = (rw c.kind_letter.ensures at c.letter_field.ensures.0, c.letter_field.ensures.1)
