-- `entries::Entries::positions` meets its contract.
use Rattle.data.proofs.reading.Marks.{ordering-start, ordering-on, ordering-end}
use Rattle.data.proofs.reading.Lists.{length-few}
use Rattle.data.proofs.reading.entries.Entries.positions.Goals as goal

pub loop-k-init : goal.loop-k-init
loop-k-init c = search ordering-start

pub loop-k-preserved : goal.loop-k-preserved
loop-k-preserved c = search ordering-on depth 9

pub returns : goal.returns
returns c = search (ordering-end, length-few) depth 8
