-- `rows::floor_of` meets its contract.
use Rattle.rows.proofs.Reading.{no-floor, floor-read}
use Rattle.rows.proofs.floor_of.Goals as goal

pub returns-then-w-eq0 : goal.returns-then-w-eq0
returns-then-w-eq0 c = search no-floor depth 7

pub returns : goal.returns
returns c = search floor-read depth 8
