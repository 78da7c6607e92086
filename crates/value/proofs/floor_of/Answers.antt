-- `value::floor_of` meets its contract.
use mathlib.Core.Path.{◌∙◌}
use native.Mathlib.Omega.{arith}
use Rattle.value.proofs.Integers.{back}
use Rattle.value.proofs.Rounding.{floor-away, floor-toward}
use Rattle.value.proofs.floor_of.Goals as goal

pub returns-then-negative : goal.returns-then-negative
returns-then-negative c =
    let sign = rw (back {z = c.args.v.m} (omega arith)) at c.if-negative.true in
    back c.away_from_zero.type_inv ∙ c.away_from_zero.ensures ∙ floor-away _ sign

pub returns : goal.returns
returns c =
    let sign = rw (back {z = c.args.v.m} (omega arith)) at c.if-negative.false in
    back c.toward_zero.type_inv ∙ c.toward_zero.ensures ∙ floor-toward _ sign
