-- `rows::lower_of` meets its contract.
use mathlib.Core.Path.{◌∙◌}
use Rattle.rows.proofs.Reading.{lower-read}
use Rattle.rows.proofs.lower_of.Goals as goal

pub returns : goal.returns
returns c = c.unwrap_or.ensures ∙ lower-read _ _ _ c.bound_at.ensures _ c.from.ensures
