-- `sheet::row_alone` meets its contract.
use native.Mathlib.Omega.{arith}
use Rattle.listing.proofs.sheet.Words.{title-most}
use Rattle.listing.proofs.sheet.Writing.{row-short, row_written}
use Rattle.listing.proofs.sheet.row_alone.Goals as goal

pub overflow_add-result : goal.overflow_add-result
overflow_add-result c =
    let a = c.args in
    omega (arith, row-short _ _ _ _ _ c.row.ensures (rw c.title_of-title.ensures (omega (arith, c.requires.0, title-most a.text.now a.tokens.now a.constraints.now c.name_at.result))))

pub returns : goal.returns
returns c =
    row_written _ _ _ c.rest_from-from.ensures _ _ _ _ _ _ _ _ _ _ _ _ c.requires.0 c.word_at.ensures c.unpack-right.ensures c.name_at.ensures c.title_of-title.ensures c.element_at-e.ensures c.row.ensures
