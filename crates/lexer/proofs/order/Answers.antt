-- `lexer::order` meets its contract.
use Rattle.lexer.proofs.Tokens.{order-yes, order-no}
use Rattle.lexer.proofs.order.Goals as goal

pub returns-then-b-eq61 : goal.returns-then-b-eq61
returns-then-b-eq61 c = search order-yes depth 5

pub returns : goal.returns
returns c = search order-no depth 5
