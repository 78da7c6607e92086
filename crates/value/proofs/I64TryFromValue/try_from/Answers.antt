-- `value::I64TryFromValue::try_from` meets its contract.
use Rattle.value.proofs.Integers.{back}
use Rattle.value.proofs.Operations.{whole-yes, whole-no}
use Rattle.value.proofs.I64TryFromValue.try_from.Goals as goal

pub returns-then-v-eq0 : goal.returns-then-v-eq0
returns-then-v-eq0 c = rw (back c.struct_told-1.given.0.1) (whole-yes _ c.if-v-eq0.true)

pub returns-else-v-eq0 : goal.returns-else-v-eq0
returns-else-v-eq0 c = whole-no _ c.if-v-eq0.false
