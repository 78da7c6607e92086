-- `cases::digits` meets its contract.
use native.Mathlib.Omega.{arith}
use Rattle.cases.proofs.Laws.{digits-none, digits-most, digits-some}
use Rattle.cases.proofs.digits.Goals as goal

pub returns-then-n-gt-MANTISSA_LIMIT : goal.returns-then-n-gt-MANTISSA_LIMIT
returns-then-n-gt-MANTISSA_LIMIT c = (search digits-none depth 5, omega arith)

pub overflow_add-result : goal.overflow_add-result
overflow_add-result c = omega (arith, digits-most _ _ _ _ c.print.ensures)

pub returns : goal.returns
returns c = (search digits-some depth 9, omega (arith, digits-most _ _ _ _ c.print.ensures))
