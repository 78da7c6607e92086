-- `value::of_millionths` meets its contract.
use mathlib.Core.Path.{◌∙◌}
use Rattle.rules.specs.Limits.{scale_limit}
use Rattle.value.specs.Gathering.{of_millionths}
use Rattle.value.proofs.Integers.{back}
use Rattle.value.proofs.of_millionths.Goals as goal

pub returns : goal.returns
unfolding of_millionths scale_limit
returns c = c.normalise.ensures ∙ rw (back c.ranges.z.sfits)
