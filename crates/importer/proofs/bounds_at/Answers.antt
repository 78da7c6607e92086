-- `importer::bounds_at` meets its contract.
use native.Mathlib.Omega.{arith}
use Rattle.importer.proofs.Sides.{bounds-none, bounds-open, bounds-found}
use Rattle.importer.proofs.Values.{found_inside}
use Rattle.importer.proofs.bounds_at.Goals as goal

pub returns-in_err-lower : goal.returns-in_err-lower
returns-in_err-lower c = rw c.from_residual.ensures (search (bounds-none, c.in_err-lower.was) depth 9)

pub upper_at-requires : goal.upper_at-requires
upper_at-requires c = (search (found_inside, c.in_ok-lower.was) depth 6, omega arith)

pub returns-in_err-upper : goal.returns-in_err-upper
returns-in_err-upper c = rw c.from_residual-in_err-upper.ensures (search (bounds-open, c.in_ok-lower.was, c.in_err-upper.was) depth 11)

pub returns : goal.returns
returns c = search (bounds-found, c.in_ok-lower.was, c.in_ok-upper.was) depth 12
