-- `entries::Entries::marks` meets its contract.
use Rattle.data.proofs.reading.Marks.{marking-start, marking-fixed, marking-marked, marking-end, entries-few}
use Rattle.data.proofs.reading.entries.Entries.marks.Goals as goal

pub loop-k-init : goal.loop-k-init
loop-k-init c = search marking-start

pub loop-k-preserved-in_default : goal.loop-k-preserved-in_default
loop-k-preserved-in_default c = search marking-fixed depth 9

pub loop-k-preserved : goal.loop-k-preserved
loop-k-preserved c = search marking-marked depth 10

pub returns : goal.returns
returns c = search (marking-end, entries-few) depth 8
