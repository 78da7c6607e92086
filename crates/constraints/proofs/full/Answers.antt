-- `constraints::full` meets its contract.
use Rattle.constraints.proofs.ListLaws.{full-token, full-wrong}
use Rattle.constraints.proofs.full.Goals as goal

pub returns-in-Ok : goal.returns-in-Ok
returns-in-Ok c = search (full-token, c.in-Ok.is) depth 8

pub returns-in-Err : goal.returns-in-Err
returns-in-Err c = search (full-wrong, c.in-Err.is) depth 8
