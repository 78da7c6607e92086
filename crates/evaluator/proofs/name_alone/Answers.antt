-- `name_alone` meets its contract.
use Rattle.evaluator.proofs.Alone.{alone-index, alone-datum}
use Rattle.evaluator.proofs.name_alone.Goals as goal

pub returns-then-listed : goal.returns-then-listed
returns-then-listed c = search (alone-index, c.in_ok-listed.was, c.in_ok-scope.was) depth 12

pub returns-then-listed-2 : goal.returns-then-listed-2
returns-then-listed-2 c = search (alone-datum, c.in_ok-listed.was) depth 18
