-- `store::word_at` meets its contract.
use Rattle.store.specs.Table.{word_at}
use Rattle.store.proofs.word_at.Goals as goal

pub returns : goal.returns
unfolding word_at
returns c = rw c.row_at.ensures
