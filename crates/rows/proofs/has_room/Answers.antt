-- `rows::has_room` meets its contract.
use Rattle.rows.proofs.Slotting.{room-none, room-left}
use Rattle.rows.proofs.has_room.Goals as goal

pub returns-then-less-ge-ROW_LIMIT : goal.returns-then-less-ge-ROW_LIMIT
returns-then-less-ge-ROW_LIMIT c = room-none _ _ c.if-less-ge-ROW_LIMIT.true

pub returns : goal.returns
returns c = room-left _ _ c.if-less-ge-ROW_LIMIT.false
