-- `rows::stated_if` meets its contract.
use Rattle.rows.proofs.Bounding.{stated-yes, stated-no}
use Rattle.rows.proofs.stated_if.Goals as goal

pub returns-then-applies : goal.returns-then-applies
returns-then-applies c = search stated-yes depth 7

pub returns : goal.returns
returns c = search stated-no depth 6
