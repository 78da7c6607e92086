-- `importer::row_line` meets its contract.
use native.Mathlib.Omega.{arith}
use Rattle.listing.specs.Kinds.{kind_in}
use Rattle.listing.proofs.Lengths.{row-most}
use Rattle.listing.proofs.Writing.{written_from}
use Rattle.importer.proofs.row_line.Goals as goal

pub overflow_add-result : goal.overflow_add-result
overflow_add-result c =
    omega (arith, c.row.ensures.next, row-most c.args.number (kind_in c.args.kind) c.args.v)

pub returns : goal.returns
returns c =
    (written_from _ _ _ _ _ _ c.rest_from-from.ensures c.row.ensures, omega (arith, c.row.ensures.next, row-most c.args.number (kind_in c.args.kind) c.args.v))
