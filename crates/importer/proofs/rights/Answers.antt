-- `importer::rights` meets its contract.
use native.Mathlib.Omega.{arith}
use Rattle.importer.proofs.Sides.{rights-more, rights-open, rights-stop}
use Rattle.importer.proofs.Values.{found_inside}
use Rattle.importer.proofs.Walking.{each_first, each-end}
use Rattle.importer.proofs.rights.Goals as goal

pub loop-i-init : goal.loop-i-init
loop-i-init c = each_first _ _ _ _ _ _ _ (omega arith)

pub returns-in_err-v : goal.returns-in_err-v
returns-in_err-v c = rw c.from_residual.ensures (search (rights-stop, c.in_err-v.was) depth 9)

pub floor_at-requires : goal.floor_at-requires
floor_at-requires c = (search (found_inside, c.in_ok-v.was) depth 6, omega arith)

pub returns-in_err-floor : goal.returns-in_err-floor
returns-in_err-floor c = rw c.from_residual-in_err-floor.ensures (search (rights-open, c.in_ok-v.was, c.in_err-floor.was) depth 13)

pub loop-i-preserved : goal.loop-i-preserved
loop-i-preserved c = search (rights-more, c.in_ok-v.was, c.in_ok-floor.was) depth 18

pub returns : goal.returns
returns c = search each-end depth 8
