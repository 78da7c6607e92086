-- `store::row_at` meets its contract.
use mathlib.Core.Path.{refl, sym, ◌∙◌}
use lib.ListN.{get_or-eq_default}
use Rattle.store.specs.Table.{no_row, nth_row}
use Rattle.store.proofs.row_at.Goals as goal

pub returns-then-i-table : goal.returns-then-i-table
unfolding nth_row
returns-then-i-table c = refl

pub returns : goal.returns
unfolding nth_row
returns c = c.none.ensures ∙ sym (get_or-eq_default c.args.table.now no_row c.if-i-table.false)
