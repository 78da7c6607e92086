-- `generator::give` meets its contract.
use Rattle.generator.proofs.Answers.{give-refused, give-long, give-printed}
use Rattle.generator.proofs.give.Goals as goal

pub returns-then-out-n : goal.returns-then-out-n
returns-then-out-n c = search give-long depth 8

pub returns-else-out-n : goal.returns-else-out-n
returns-else-out-n c = search give-printed depth 8

pub returns-in-Err : goal.returns-in-Err
returns-in-Err c = search give-refused depth 8
