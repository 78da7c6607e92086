-- `variable_at` meets its contract.
use Rattle.gatherer.proofs.Numbers.{at_mark_lem, at-unknown, at-late, at-variable, at_other}
use Rattle.gatherer.proofs.variable_at.Goals as goal

pub returns-then-k : goal.returns-then-k
returns-then-k c = search at_mark_lem depth 5

pub returns-in_err-name : goal.returns-in_err-name
returns-in_err-name c = rw c.from_residual.ensures (search (at-unknown, c.in_err-name.was) depth 7)

pub returns-then-level-name : goal.returns-then-level-name
returns-then-level-name c = search (at-late, c.in_ok-name.was) depth 8

pub returns-then-name : goal.returns-then-name
returns-then-name c = search (at-variable, c.in_ok-name.was) depth 9

pub returns : goal.returns
returns c = search (at_other, c.in_ok-name.was) depth 9
