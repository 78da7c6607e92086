-- `linear::variable` meets its contract.
use Rattle.linear.proofs.Laws.{variable-name, variable-other, variable-unknown, variable-mark}
use Rattle.linear.proofs.variable.Goals as goal

pub returns-then-k : goal.returns-then-k
returns-then-k c = search variable-mark depth 6

pub returns-in_err-name : goal.returns-in_err-name
returns-in_err-name c = rw c.from_residual.ensures (search (variable-unknown, c.in_err-name.was) depth 8)

pub returns-then-name : goal.returns-then-name
returns-then-name c = search (variable-name, c.in_ok-name.was) depth 8

pub returns : goal.returns
returns c = search (variable-other, c.in_ok-name.was) depth 8
