-- `listing::number_field` meets its contract.
use native.Mathlib.Omega.{arith}
use Rattle.listing.proofs.Showing.{natural-read, natural-none}
use Rattle.listing.proofs.number_field.Goals as goal

pub returns-then-n-le-MANTISSA_LIMIT : goal.returns-then-n-le-MANTISSA_LIMIT
returns-then-n-le-MANTISSA_LIMIT c =
    (rw (natural-read _ c.if-n-le-MANTISSA_LIMIT.true) at c.whole_field.ensures.0, c.whole_field.ensures.1)

pub returns : goal.returns
returns c =
    (rw (natural-none _ c.if-n-le-MANTISSA_LIMIT.false) c.put.ensures, omega (arith, c.put.ensures.next))
