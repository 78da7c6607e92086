-- `listing::value_field` meets its contract.
use native.Mathlib.Omega.{arith}
use Rattle.listing.proofs.Showing.{shown-most}
use Rattle.listing.proofs.Writing.{tab-then, written_from}
use Rattle.listing.proofs.value_field.Goals as goal

pub overflow_add-result : goal.overflow_add-result
overflow_add-result c =
    omega (arith, c.put-next.ensures.next, c.print.ensures.next, shown-most c.args.v)

pub returns : goal.returns
returns c = (
  tab-then c.put-next.ensures (written_from _ _ _ _ _ _ c.rest_from-from.ensures c.print.ensures),
  omega (arith, c.put-next.ensures.next, c.print.ensures.next, shown-most c.args.v),
)
