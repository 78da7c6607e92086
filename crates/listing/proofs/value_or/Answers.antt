-- `listing::value_or` meets its contract.
use native.Mathlib.Omega.{arith}
use Rattle.listing.proofs.value_or.Goals as goal

pub returns-in-None : goal.returns-in-None
returns-in-None c = (rw c.in-None.is c.text_field.ensures.0, omega (arith, c.text_field.ensures.0.next))

pub returns-in-Some : goal.returns-in-Some
returns-in-Some c = (rw c.in-Some.is c.value_field.ensures.0, c.value_field.ensures.1)
