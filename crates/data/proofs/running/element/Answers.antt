-- `running::element` meets its contract.
use Rattle.data.proofs.reading.Marks.{entries-few}
use Rattle.data.proofs.Positions.{making-start, making-fixed, making-marked, making-end}
use Rattle.data.proofs.running.element.Goals as goal

pub loop-k-init : goal.loop-k-init
loop-k-init c = search making-start

pub loop-k-preserved : goal.loop-k-preserved
loop-k-preserved c = search (making-fixed, entries-few) depth 10

pub loop-k-preserved-in_default : goal.loop-k-preserved-in_default
loop-k-preserved-in_default c = search (making-marked, entries-few) depth 10

pub returns : goal.returns
returns c = search making-end depth 6
