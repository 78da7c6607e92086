-- `exporter::put_value` meets its contract.
use native.Mathlib.Omega.{arith}
use Rattle.listing.proofs.Showing.{shown-most}
use Rattle.listing.proofs.Writing.{written_from}
use Rattle.exporter.proofs.put_value.Goals as goal

pub overflow_add-result : goal.overflow_add-result
overflow_add-result c =
    omega (arith, c.print.ensures.next, shown-most c.args.v)

pub returns : goal.returns
returns c =
    (search written_from depth 8, omega (arith, c.print.ensures.next, shown-most c.args.v))
