-- `rows::state_floor` meets its contract.
use Rattle.rows.proofs.Bounding.{floor-out, floor-in}
use Rattle.rows.proofs.state_floor.Goals as goal

pub returns-then-floor-eq0 : goal.returns-then-floor-eq0
returns-then-floor-eq0 c = search floor-out

pub returns : goal.returns
returns c = search floor-in depth 7
