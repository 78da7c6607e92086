-- `store::move_up` meets its contract.
use borrow.Author.Rules.{rules}
use Rattle.store.specs.Table.{nth_row}
use Rattle.store.proofs.move_up.Goals as goal

pub returns : goal.returns
unfolding nth_row
returns c = search rules
