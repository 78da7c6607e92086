-- `lexer::sign_length` meets its contract.
use Rattle.lexer.proofs.Powers.{sign-some, sign-none}
use Rattle.lexer.proofs.sign_length.Goals as goal

pub returns-then-b : goal.returns-then-b
returns-then-b c = search sign-some depth 6

pub returns-else-b : goal.returns-else-b
returns-else-b c = search sign-none depth 6
