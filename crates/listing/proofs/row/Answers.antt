-- `listing::row` meets its contract.
use Rattle.listing.proofs.Writing.{row-then, field-then}
use Rattle.listing.proofs.row.Goals as goal

pub returns : goal.returns
returns c = row-then _ _ _ _ _ c.row_start-at.ensures.0 (field-then _ c.text_field-at.ensures.0 c.element_fields.ensures)
