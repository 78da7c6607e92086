-- `value::ceiling_of` meets its contract.
use mathlib.Core.Path.{◌∙◌}
use native.Mathlib.Omega.{arith}
use Rattle.value.proofs.Integers.{back}
use Rattle.value.proofs.Rounding.{ceiling-away, ceiling-toward}
use Rattle.value.proofs.ceiling_of.Goals as goal

pub returns-then-positive : goal.returns-then-positive
returns-then-positive c =
    let sign = rw (back {z = c.args.v.m} (omega arith)) at c.if-positive.true in
    back c.away_from_zero.type_inv ∙ c.away_from_zero.ensures ∙ ceiling-away _ sign

pub returns : goal.returns
returns c =
    let sign = rw (back {z = c.args.v.m} (omega arith)) at c.if-positive.false in
    back c.toward_zero.type_inv ∙ c.toward_zero.ensures ∙ ceiling-toward _ sign
