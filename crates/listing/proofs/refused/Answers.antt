-- `listing::refused` meets its contract.
use Rattle.listing.proofs.Writing.{refused-then, field-then, line-end}
use Rattle.listing.proofs.refused.Goals as goal

pub returns : goal.returns
returns c =
    refused-then _ _ c.put_text-at.ensures
    (field-then _ c.number_field-at.ensures.0 (field-then _ c.number_field-at-2.ensures.0 (line-end c.put.ensures)))
