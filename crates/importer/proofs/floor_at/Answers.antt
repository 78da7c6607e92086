-- `importer::floor_at` meets its contract.
use Rattle.importer.proofs.Sides.{floor-absent, floor-missing, floor-found}
use Rattle.importer.proofs.floor_at.Goals as goal

pub returns-then-not-has_floor : goal.returns-then-not-has_floor
returns-then-not-has_floor c = search floor-absent depth 9

pub returns-in_err-v : goal.returns-in_err-v
returns-in_err-v c = rw c.from_residual.ensures (search (floor-missing, c.in_err-v.was) depth 10)

pub returns : goal.returns
returns c = search (floor-found, c.in_ok-v.was) depth 11
