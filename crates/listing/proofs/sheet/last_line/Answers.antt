-- `sheet::last_line` meets its contract.
use native.Mathlib.Omega.{arith}
use Rattle.language.specs.Listing.{ending_line}
use Rattle.listing.proofs.Lengths.{line-most}
use Rattle.listing.proofs.Writing.{written_from}
use Rattle.listing.proofs.sheet.last_line.Goals as goal

pub overflow_add-result : goal.overflow_add-result
overflow_add-result c = omega (arith, c.end.ensures.next, line-most ending_line)

pub returns : goal.returns
returns c =
    written_from _ _ _ _ _ _ c.rest_from-from.ensures c.end.ensures
