-- `listing::lp` meets its contract.
use Rattle.language.specs.Listing.{lp_line}
use Rattle.listing.proofs.Writing.{line-then, field-then, line-end}
use Rattle.listing.proofs.lp.Goals as goal

pub returns : goal.returns
returns c =
    line-then (lp_line _ _ _ _ _ _) c.put_text-at.ensures
    (field-then _ c.number_field-at.ensures.0
    (field-then _ c.number_field-at-2.ensures.0
    (field-then _ c.number_field-at-3.ensures.0
    (field-then _ c.number_field-at-4.ensures.0
    (field-then _ c.title_field-at.ensures.0 (field-then _ c.title_field-at-2.ensures.0 (line-end c.put.ensures)))))))
