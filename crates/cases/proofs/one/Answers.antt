-- `cases::one` meets its contract.
use native.Mathlib.Omega.{arith}
use Rattle.cases.proofs.Laws.{one-zero, one-other}
use Rattle.cases.proofs.one.Goals as goal

pub returns-then-b-eq0 : goal.returns-then-b-eq0
returns-then-b-eq0 c = (search one-zero depth 4, omega arith)

pub returns-else-b-eq0 : goal.returns-else-b-eq0
returns-else-b-eq0 c = (search one-other depth 4, omega arith)
