-- `importer::upper_at` meets its contract.
use Rattle.importer.proofs.Sides.{upper-absent, upper-none, upper-some}
use Rattle.importer.proofs.upper_at.Goals as goal

pub returns-in-Some : goal.returns-in-Some
returns-in-Some c = search upper-absent depth 9

pub returns-in_err-v : goal.returns-in_err-v
returns-in_err-v c = rw c.from_residual.ensures (search (upper-none, c.in_err-v.was) depth 10)

pub returns : goal.returns
returns c = search (upper-some, c.in_ok-v.was) depth 11
