-- `value::Value::is_zero` meets its contract.
use Rattle.value.specs.Decimal.{is_zero}
use Rattle.value.proofs.Integers.{zero-bits}
use Rattle.value.proofs.Value.is_zero.Goals as goal

pub returns : goal.returns
unfolding is_zero
returns c = zero-bits c.args.self.m c.struct_told-1.given.0.1
