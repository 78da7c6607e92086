-- `importer::read` meets its contract.
use Rattle.importer.proofs.Whole.{read_none, open-inside, open-fits, open-size, open-few, read_some}
use Rattle.importer.proofs.read.Goals as goal

pub returns-in_err-rows : goal.returns-in_err-rows
returns-in_err-rows c = rw c.from_residual.ensures (search (read_none, c.in_err-rows.was) depth 9)

pub slice_bounds-floors-end : goal.slice_bounds-floors-end
slice_bounds-floors-end c = search (open-fits, c.in_ok-rows.was) depth 10

pub slice_bounds-sheet-end : goal.slice_bounds-sheet-end
slice_bounds-sheet-end c = search (open-size, c.in_ok-rows.was) depth 10

pub sheet-requires : goal.sheet-requires
sheet-requires c = (search (open-inside, c.in_ok-rows.was) depth 10, search (open-few, c.in_ok-rows.was) depth 10)

pub returns : goal.returns
returns c = search (read_some, c.in_ok-rows.was) depth 12
