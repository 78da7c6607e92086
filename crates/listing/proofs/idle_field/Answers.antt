-- `listing::idle_field` meets its contract.
use native.Mathlib.Omega.{arith}
use Rattle.listing.proofs.Spanning.{idle-yes, idle-no}
use Rattle.listing.proofs.idle_field.Goals as goal

pub returns-then-idle : goal.returns-then-idle
returns-then-idle c =
    (rw (idle-yes _ c.if-idle.true) c.text_field.ensures.0, omega (arith, c.text_field.ensures.0.next))

pub returns : goal.returns
returns c =
    (rw (idle-no _ c.if-idle.false) c.text_field-2.ensures.0, omega (arith, c.text_field-2.ensures.0.next))
