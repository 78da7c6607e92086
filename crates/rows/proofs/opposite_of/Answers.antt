-- `rows::opposite_of` meets its contract.
use mathlib.Core.Path.{◌∙◌}
use mir.Facts.{to_z-of_z}
use Rattle.rows.proofs.Counting.{opposed-low, opposed-other, opposed-fits}
use Rattle.rows.proofs.opposite_of.Goals as goal

pub returns-then-z-lowest : goal.returns-then-z-lowest
returns-then-z-lowest c = rw (to_z-of_z c.ranges.z) (opposed-low c.args.z (rw (to_z-of_z c.ranges.z, c.count_limit.ensures) at c.if-z-lowest.true))

pub overflow_sub-result : goal.overflow_sub-result
overflow_sub-result c = rw (to_z-of_z c.ranges.z) (opposed-fits c.args.z (rw (to_z-of_z c.ranges.z, c.count_limit.ensures) at c.if-z-lowest.false) c.ranges.z.sfits)

pub returns : goal.returns
returns c = to_z-of_z (overflow_sub-result c) ∙ rw (to_z-of_z c.ranges.z) (opposed-other c.args.z (rw (to_z-of_z c.ranges.z, c.count_limit.ensures) at c.if-z-lowest.false))
