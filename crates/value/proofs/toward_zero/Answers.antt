-- `value::toward_zero` meets its contract.
use mathlib.Core.Path.{◌∙◌}
use native.Mathlib.Omega.{arith}
use Rattle.value.proofs.Integers.{back}
use Rattle.value.proofs.Rounding.{quotient-small, toward-whole}
use Rattle.value.proofs.toward_zero.Goals as goal

pub returns-then-v-eq0 : goal.returns-then-v-eq0
returns-then-v-eq0 c = back {z = c.args.v.m} (omega arith) ∙ toward-whole _ _ c.if-v-eq0.true

pub with_sign-requires : goal.with_sign-requires
with_sign-requires c = omega (arith, c.quotient.ensures, quotient-small _ _ c.unsigned_abs.ensures.bound c.if-v-eq0.false)
