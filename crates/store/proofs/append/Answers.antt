-- `store::append` meets its contract.
use Rattle.store.specs.Table.{row_set}
use Rattle.store.proofs.Rows.{append-room, append-none}
use Rattle.store.proofs.append.Goals as goal

pub returns-then-n-table : goal.returns-then-n-table
unfolding row_set
returns-then-n-table c = append-room _ _ _ _ c.if-n-table.true

pub returns-else-n-table : goal.returns-else-n-table
returns-else-n-table c = append-none _ _ _ _ c.if-n-table.false
