-- `rows::counted` meets its contract.
use Rattle.rows.proofs.Slotting.{counted-equal, counted-less}
use Rattle.rows.proofs.counted.Goals as goal

pub returns-then-equal : goal.returns-then-equal
returns-then-equal c = search counted-equal depth 5

pub returns : goal.returns
returns c = search counted-less depth 5
