-- `importer::read_value` meets its contract.
use Rattle.importer.proofs.Values.{value-big, value-other, value-open, value_found}
use Rattle.importer.proofs.read_value.Goals as goal

pub returns-in_err-v : goal.returns-in_err-v
returns-in_err-v c = rw c.from_residual.ensures (search (value-big, c.in_err-v.was) depth 10)

pub returns-then-not-is_print : goal.returns-then-not-is_print
returns-then-not-is_print c = search (value-other, c.in_ok-v.was) depth 10

pub returns-in_err-next : goal.returns-in_err-next
returns-in_err-next c = rw c.from_residual-in_err-next.ensures (search (value-open, c.in_ok-v.was, c.in_err-next.was) depth 12)

pub returns : goal.returns
returns c = search (value_found, c.in_ok-v.was, c.in_ok-next.was) depth 12
