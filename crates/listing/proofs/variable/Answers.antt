-- `listing::variable` meets its contract.
use Rattle.listing.proofs.Writing.{variable-then, field-then}
use Rattle.listing.proofs.variable.Goals as goal

pub returns : goal.returns
returns c = variable-then _ _ _ _ _ _ c.variable_start-at.ensures.0 (field-then _ c.text_field-at.ensures.0 c.element_fields.ensures)
