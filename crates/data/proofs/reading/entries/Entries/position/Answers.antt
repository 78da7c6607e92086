-- `entries::Entries::position` meets its contract.
use Rattle.data.proofs.reading.Marks.{placing-start, placing-found, placing-on, placing-end}
use Rattle.data.proofs.reading.entries.Entries.position.Goals as goal

pub loop-k-init : goal.loop-k-init
loop-k-init c = search placing-start

pub returns-then-marks_index : goal.returns-then-marks_index
returns-then-marks_index c = search placing-found depth 9

pub loop-k-preserved : goal.loop-k-preserved
loop-k-preserved c = search placing-on depth 9

pub returns : goal.returns
returns c = search placing-end depth 7
