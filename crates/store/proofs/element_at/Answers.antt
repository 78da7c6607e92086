-- `store::element_at` meets its contract.
use borrow.Author.Rules.{rules}
use Rattle.store.specs.Table.{key_at}
use Rattle.store.proofs.Back.{element-read}
use Rattle.store.proofs.element_at.Goals as goal

pub returns : goal.returns
unfolding key_at
returns c = rw (← c.row_at.ensures) (search (element-read, rules) depth 14)
