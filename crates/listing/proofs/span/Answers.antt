-- `listing::span` meets its contract.
use Rattle.listing.proofs.Writing.{field-then, line-end}
use Rattle.listing.proofs.Spanning.{span-then}
use Rattle.listing.proofs.span.Goals as goal

pub returns : goal.returns
returns c =
    span-then _ _ _ _ c.put_text-at.ensures
    (field-then _ c.number_field-at.ensures.0
    (field-then _ c.value_or-at.ensures.0
    (field-then _ c.value_or-at-2.ensures.0 (field-then _ c.idle_field-at.ensures.0 (line-end c.put.ensures)))))
