-- `parts::read` meets its contract.
use Rattle.matrix.proofs.parts.Laws.{parts_are}
use Rattle.matrix.proofs.parts.read.Goals as goal

pub returns : goal.returns
returns c = parts_are _ _ _ _ _ _ _ c.row_at-row.ensures c.place_at-place.ensures c.first_entry-at.ensures c.number-mark.ensures
