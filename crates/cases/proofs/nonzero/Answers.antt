-- `cases::nonzero` meets its contract.
use native.Mathlib.Omega.{arith}
use Rattle.cases.proofs.Laws.{counted_none, counted-more, counted-all}
use Rattle.cases.proofs.nonzero.Goals as goal

pub loop-b-init : goal.loop-b-init
loop-b-init c = counted_none _

pub overflow_add-count : goal.overflow_add-count
overflow_add-count c = omega arith

pub loop-b-preserved : goal.loop-b-preserved
loop-b-preserved c = search counted-more depth 8

pub returns : goal.returns
returns c = search counted-all depth 8
