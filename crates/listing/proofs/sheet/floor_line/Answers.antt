-- `sheet::floor_line` meets its contract.
use native.Mathlib.Omega.{arith}
use Rattle.listing.proofs.Lengths.{low-most}
use Rattle.listing.proofs.Writing.{written_from}
use Rattle.listing.proofs.sheet.floor_line.Goals as goal

pub overflow_add-result : goal.overflow_add-result
overflow_add-result c = omega (arith, c.low.ensures.next, low-most c.args.row c.args.floor)

pub returns : goal.returns
returns c = (
  written_from _ _ _ _ _ _ c.rest_from-from.ensures c.low.ensures,
  omega (arith, c.low.ensures.next, low-most c.args.row c.args.floor),
)
