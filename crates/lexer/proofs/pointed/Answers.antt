-- `lexer::pointed` meets its contract.
use Rattle.lexer.proofs.Tokens.{point-end, point-here}
use Rattle.lexer.proofs.pointed.Goals as goal

pub returns-then-s-at : goal.returns-then-s-at
returns-then-s-at c = search point-end depth 5

pub returns : goal.returns
returns c = search point-here depth 6
