-- `listing::whole_field` meets its contract.
use mir.Facts.{to_z-of_z}
use Rattle.listing.proofs.Showing.{whole_is}
use Rattle.listing.proofs.whole_field.Goals as goal

pub returns : goal.returns
returns c =
    let e = rw (to_z-of_z c.ranges.k) at c.from.ensures in
    (rw (whole_is _ _ e) at c.value_field.ensures.0, c.value_field.ensures.1)
