-- `running::scope_before` meets its contract.
use Rattle.data.proofs.Positions.{scoping-start, scoping-marked, scoping-fixed, scoping-end}
use Rattle.data.proofs.running.scope_before.Goals as goal

pub loop-k-init : goal.loop-k-init
loop-k-init c = search scoping-start

pub loop-k-preserved-in_default : goal.loop-k-preserved-in_default
loop-k-preserved-in_default c = search scoping-marked depth 9

pub loop-k-preserved : goal.loop-k-preserved
loop-k-preserved c = search scoping-fixed depth 11

pub returns : goal.returns
returns c = search scoping-end depth 6
