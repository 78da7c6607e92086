-- `tokens::mark` meets its contract.
use Rattle.tokens.proofs.Tables.{mark-none, mark-own}
use Rattle.tokens.proofs.mark.Goals as goal

pub returns-then-kind : goal.returns-then-kind
returns-then-kind c = search mark-none

pub returns-else-kind : goal.returns-else-kind
returns-else-kind c = search mark-own
