-- `rows::value_of` meets its contract.
use mathlib.Core.Path.{◌∙◌}
use Rattle.value.proofs.Integers.{back}
use Rattle.rows.proofs.Reading.{value-or}
use Rattle.rows.proofs.value_of.Goals as goal

pub returns : goal.returns
returns c = c.unwrap_or.ensures ∙ rw c.from.ensures (value-or _ _ (rw (back c.ranges.z.sfits) at c.of_millionths.ensures))
