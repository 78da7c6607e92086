-- `listing::row_start` meets its contract.
use native.Mathlib.Omega.{arith}
use Rattle.listing.proofs.Writing.{tab-more, tab-last, row-word}
use Rattle.listing.proofs.row_start.Goals as goal

pub returns : goal.returns
returns c =
    let start = tab-more _ c.number_field-at.ensures.0 (tab-more _ c.kind_field-at.ensures.0 (tab-last c.value_field.ensures.0)) in
    (row-word _ _ _ c.put_text-at.ensures start, omega arith)
