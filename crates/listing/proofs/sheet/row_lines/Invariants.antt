-- `sheet::row_lines` meets its contract.
use Rattle.listing.specs.Sheet.Told.{RowTold}
use Rattle.listing.proofs.sheet.Writing.{Writing}
use Rattle.listing.proofs.sheet.row_lines.Given as goal

abbrev pub invariant-loop-i : goal.invariant-loop-i
invariant-loop-i l = Writing (RowTold l.text l.tokens l.constraints l.rows l.less) l.n l.i l.initial.out l.at l.out l.next
