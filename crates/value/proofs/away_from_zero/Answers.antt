-- `value::away_from_zero` meets its contract.
use mathlib.Core.Path.{◌∙◌}
use Prim.Native.Nat.{◌-◌}
use native.Mathlib.Omega.{arith}
use Rattle.value.proofs.Integers.{back}
use Rattle.value.proofs.Rounding.{quotient-small, away-whole}
use Rattle.value.proofs.away_from_zero.Goals as goal

pub returns-then-v-eq0 : goal.returns-then-v-eq0
returns-then-v-eq0 c = back {z = c.args.v.m} (omega arith) ∙ away-whole _ _ c.if-v-eq0.true c.requires

pub with_sign-requires : goal.with_sign-requires
with_sign-requires c =
    omega (arith, c.quotient.ensures, quotient-small (c.unsigned_abs.result - 1) _ (omega (arith, c.unsigned_abs.ensures.bound)) c.if-v-eq0.false)
