-- `listing::low` meets its contract.
use Rattle.language.specs.Listing.{low_line}
use Rattle.listing.proofs.Writing.{line-then, field-then, line-end}
use Rattle.listing.proofs.Lines.{low-none, low-some}
use Rattle.listing.proofs.low.Goals as goal

pub returns-in_default : goal.returns-in_default
returns-in_default c = low-none _ _ _ c.in_default.is

pub returns : goal.returns
returns c =
    low-some _ _ _ c.in-Some.is
    (line-then (low_line c.args.row c.in-Some.v) c.put_text-at.ensures
    (field-then _ c.number_field-at.ensures.0 (field-then _ c.value_field-at.ensures.0 (line-end c.put.ensures))))
