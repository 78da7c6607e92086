-- `listing::variable_start` meets its contract.
use native.Mathlib.Omega.{arith}
use Rattle.listing.proofs.Writing.{tab-more, tab-last, variable-word}
use Rattle.listing.proofs.variable_start.Goals as goal

pub returns : goal.returns
returns c =
    let start =
    tab-more _ c.number_field-at.ensures.0
    (tab-more _ (rw c.letter.ensures at c.letter_field-at.ensures.0)
    (tab-more _ c.value_field-at.ensures.0 (tab-last c.value_or.ensures.0))) in
    (variable-word _ _ _ _ c.put_text-at.ensures start, omega arith)
