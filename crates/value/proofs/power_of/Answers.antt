-- `value::power_of` meets its contract.
use native.Mathlib.Omega.{arith}
use Rattle.value.proofs.Powers.{power-empty, power-minus, power-plus, power-plain}
use Rattle.value.proofs.power_of.Goals as goal

pub returns-in_err-first : goal.returns-in_err-first
returns-in_err-first c = rw c.from_residual.ensures (power-empty _ c.in_err-first.ensures.value)

pub returns-in-45 : goal.returns-in-45
returns-in-45 c = power-minus _ _ _ c.in_ok-first.ensures.value c.in-45.is c.power_by.ensures

pub returns-in-43 : goal.returns-in-43
returns-in-43 c = power-plus _ _ _ c.in_ok-first.ensures.value c.in-43.is c.power_by-in-43.ensures

pub returns-in_default : goal.returns-in_default
returns-in_default c = power-plain _ _ _ c.in_ok-first.ensures.value (λ e. omega arith) (λ e. omega arith) c.power_by-in_default.ensures
