-- `lexer::fraction` meets its contract.
use Rattle.lexer.proofs.Tokens.{fraction-is}
use Rattle.lexer.proofs.fraction.Goals as goal

pub returns : goal.returns
returns c = search (fraction-is, c.run_length-f.ensures.run) depth 10
