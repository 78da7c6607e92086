-- `listing::column` meets its contract.
use Rattle.language.specs.Listing.{col_line}
use Rattle.listing.proofs.Writing.{line-then, field-then, line-end}
use Rattle.listing.proofs.column.Goals as goal

pub returns : goal.returns
returns c =
    line-then (col_line _ _ _) c.put_text-at.ensures
    (field-then _ c.number_field-at.ensures.0 (field-then _ c.number_field-at-2.ensures.0 (field-then _ c.value_field-at.ensures.0 (line-end c.put.ensures))))
