-- `listing::title_field` meets its contract.
use native.Mathlib.Omega.{arith}
use Rattle.listing.proofs.Showing.{cut_most, cut-is}
use Rattle.listing.proofs.title_field.Goals as goal

pub returns : goal.returns
returns c =
    let e = c.part.ensures in
    (rw (cut-is _ _ e) c.text_field.ensures.0, omega (arith, c.text_field.ensures.0.next, cut_most _ c.args.t.now e))
