-- `turn` meets its contract.
use Rattle.matrix.proofs.sides.RowLaws.{turn-negated, turn-kept}
use Rattle.matrix.proofs.sides.turn.Goals as goal

pub returns-then-negative : goal.returns-then-negative
returns-then-negative c = search turn-negated depth 6

pub returns-else-negative : goal.returns-else-negative
returns-else-negative c = search turn-kept depth 6
