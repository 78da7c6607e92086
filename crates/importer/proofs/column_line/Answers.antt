-- `importer::column_line` meets its contract.
use native.Mathlib.Omega.{arith}
use Rattle.language.specs.Listing.{col_line}
use Rattle.listing.proofs.Lengths.{line-most}
use Rattle.listing.proofs.Writing.{written_from}
use Rattle.importer.proofs.column_line.Goals as goal

pub overflow_add-result : goal.overflow_add-result
overflow_add-result c = omega (arith, c.column.ensures.next, line-most (col_line c.args.variable c.args.row c.args.v))

pub returns : goal.returns
returns c =
    (written_from _ _ _ _ _ _ c.rest_from-from.ensures c.column.ensures, omega (arith, c.column.ensures.next, line-most (col_line c.args.variable c.args.row c.args.v)))
