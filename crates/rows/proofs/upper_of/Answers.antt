-- `rows::upper_of` meets its contract.
use Rattle.rows.proofs.Reading.{upper-read}
use Rattle.rows.proofs.upper_of.Goals as goal

pub returns : goal.returns
returns c = upper-read _ _ _ c.bound_at.ensures
