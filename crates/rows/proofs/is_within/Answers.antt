-- `rows::is_within` meets its contract.
use Rattle.rows.proofs.Reading.{within-no, within-test}
use Rattle.rows.proofs.is_within.Goals as goal

pub returns-then-less-gt-ROW_LIMIT : goal.returns-then-less-gt-ROW_LIMIT
returns-then-less-gt-ROW_LIMIT c = within-no _ c.if-less-gt-ROW_LIMIT.true

pub returns : goal.returns
returns c = within-test _ c.if-less-gt-ROW_LIMIT.false
