-- `lexer::powered` meets its contract.
use Rattle.lexer.proofs.Powers.{powered-is}
use Rattle.lexer.proofs.powered.Goals as goal

pub returns : goal.returns
returns c = search powered-is depth 10
