-- `listing::letter_field` meets its contract.
use native.Mathlib.Omega.{arith}
use Rattle.listing.proofs.Writing.{tab-then}
use Rattle.listing.proofs.letter_field.Goals as goal

pub returns : goal.returns
returns c =
    (tab-then c.put-next.ensures c.put.ensures, omega (arith, c.put-next.ensures.next, c.put.ensures.next))
