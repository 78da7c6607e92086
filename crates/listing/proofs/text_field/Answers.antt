-- `listing::text_field` meets its contract.
use native.Mathlib.Omega.{arith}
use Rattle.listing.proofs.Writing.{tab-then}
use Rattle.listing.proofs.text_field.Goals as goal

pub returns : goal.returns
returns c =
    (tab-then c.put-next.ensures c.put_text.ensures, omega (arith, c.put-next.ensures.next, c.put_text.ensures.next))
