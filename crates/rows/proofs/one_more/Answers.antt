-- `rows::one_more` meets its contract.
use Rattle.rows.proofs.Slotting.{more-counted, none-counted}
use Rattle.rows.proofs.one_more.Goals as goal

pub returns-then-n-lt-ROW_LIMIT : goal.returns-then-n-lt-ROW_LIMIT
returns-then-n-lt-ROW_LIMIT c = more-counted _ c.if-n-lt-ROW_LIMIT.true

pub returns : goal.returns
returns c = none-counted _ c.if-n-lt-ROW_LIMIT.false
