-- `importer::line_value` meets its contract.
use Rattle.importer.proofs.Stripping.{move-inside}
use Rattle.importer.proofs.Values.{line-none, line-some}
use Rattle.importer.proofs.line_value.Goals as goal

pub returns-in_err-next : goal.returns-in_err-next
returns-in_err-next c = rw c.from_residual.ensures (search (line-none, c.in_err-next.was) depth 10)

pub read_value-requires : goal.read_value-requires
read_value-requires c = search (move-inside, c.in_ok-next.was) depth 6

pub returns : goal.returns
returns c = search (line-some, c.in_ok-next.was) depth 9
