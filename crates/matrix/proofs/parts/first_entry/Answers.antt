-- `parts::first_entry` meets its contract.
use Rattle.matrix.proofs.parts.Laws.{first_some, first-none, first-wrong}
use Rattle.matrix.proofs.parts.first_entry.Goals as goal

pub returns-in_default : goal.returns-in_default
returns-in_default c = search first-wrong depth 5

pub returns-then-token : goal.returns-then-token
returns-then-token c = search first_some depth 6

pub returns : goal.returns
returns c = search first-none depth 6
