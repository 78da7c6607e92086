-- `value::aligned` meets its contract.
use mathlib.Core.Path.{◌∙◌}
use native.Mathlib.Omega.{arith}
use Rattle.rules.specs.Limits.{mantissa_limit, scale_limit}
use Rattle.value.specs.Gathering.{millionths}
use Rattle.value.proofs.Integers.{back}
use Rattle.value.proofs.Ranges.{range_small, range-places}
use Rattle.value.proofs.aligned.Goals as goal

pub overflow_sub-s : goal.overflow_sub-s
overflow_sub-s c = omega (arith, range-places _ c.requires)

pub scaled-requires : goal.scaled-requires
unfolding mantissa_limit scale_limit
scaled-requires c = (rw (back c.struct_told-1.given.0.1) (range_small _ c.requires), omega arith)

pub returns : goal.returns
unfolding millionths scale_limit
returns c = back c.scaled.type_inv ∙ c.scaled.ensures ∙ rw (back c.struct_told-1.given.0.1)
