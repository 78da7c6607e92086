-- `importer::rights_part` meets its contract.
use native.Mathlib.Omega.{arith}
use Rattle.importer.proofs.Sides.{rights-none, rights-some}
use Rattle.importer.proofs.Stripping.{move-inside}
use Rattle.importer.proofs.rights_part.Goals as goal

pub returns-in_err-next : goal.returns-in_err-next
returns-in_err-next c = rw c.from_residual.ensures (search (rights-none, c.in_err-next.was) depth 9)

pub rights-requires : goal.rights-requires
rights-requires c = (search (move-inside, c.in_ok-next.was) depth 6, omega arith, omega arith)

pub returns : goal.returns
returns c = search (rights-some, c.in_ok-next.was) depth 12
