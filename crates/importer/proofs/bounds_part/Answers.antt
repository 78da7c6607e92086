-- `importer::bounds_part` meets its contract.
use native.Mathlib.Omega.{arith}
use Rattle.importer.proofs.Sides.{part_none, part-stop, part-open, part-all}
use Rattle.importer.proofs.Stripping.{move-inside}
use Rattle.importer.proofs.Walking.{step-inside}
use Rattle.importer.proofs.bounds_part.Goals as goal

pub returns-in_err-next : goal.returns-in_err-next
returns-in_err-next c = rw c.from_residual.ensures (search (part_none, c.in_err-next.was) depth 9)

pub bounds-requires : goal.bounds-requires
bounds-requires c = (search (move-inside, c.in_ok-next.was) depth 6, omega arith, omega arith)

pub returns-in_err-next-2 : goal.returns-in_err-next-2
returns-in_err-next-2 c = rw c.from_residual-in_err-next-2.ensures (search (part-stop, c.in_ok-next.was, c.in_err-next-2.was) depth 11)

pub strip-requires-2 : goal.strip-requires-2
strip-requires-2 c = search (step-inside, c.in_ok-next-2.was) depth 7

pub returns-in_err-next-3 : goal.returns-in_err-next-3
returns-in_err-next-3 c = rw c.from_residual-in_err-next-3.ensures (search (part-open, c.in_ok-next.was, c.in_ok-next-2.was, c.in_err-next-3.was) depth 14)

pub returns : goal.returns
returns c = search (part-all, c.in_ok-next.was, c.in_ok-next-2.was, c.in_ok-next-3.was) depth 15
