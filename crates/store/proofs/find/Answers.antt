-- `store::find` meets its contract.
use Rattle.store.specs.Table.{found_row}
use Rattle.store.proofs.find.Goals as goal

pub returns : goal.returns
unfolding found_row
returns c = rw (c.ok.ensures.value, c.locate.ensures)
