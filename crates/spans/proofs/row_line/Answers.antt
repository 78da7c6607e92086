-- `spans::row_line` meets its contract.
use Rattle.spans.proofs.Telling.{row_written}
use Rattle.spans.proofs.row_line.Goals as goal

pub returns : goal.returns
returns c = search row_written depth 14
