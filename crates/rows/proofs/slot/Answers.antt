-- `rows::slot` meets its contract.
use Rattle.rows.proofs.Reading.{slot-less, slot-equal, slot-past}
use Rattle.rows.proofs.slot.Goals as goal

pub returns-then-i-less : goal.returns-then-i-less
returns-then-i-less c = slot-less _ _ c.if-i-less.true

pub returns-then-k-lt-ROW_LIMIT : goal.returns-then-k-lt-ROW_LIMIT
returns-then-k-lt-ROW_LIMIT c = search slot-equal depth 6

pub returns : goal.returns
returns c = search slot-past depth 6
