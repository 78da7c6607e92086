-- `lexer::literal` meets its contract.
use Rattle.lexer.proofs.Tokens.{point-after, literal-fraction, literal-whole}
use Rattle.lexer.proofs.literal.Goals as goal

pub fraction-requires : goal.fraction-requires
fraction-requires c = search (point-after, c.run_length-w.ensures.run) depth 8

pub returns-then-pointed : goal.returns-then-pointed
returns-then-pointed c = search (literal-fraction, c.run_length-w.ensures.run) depth 10

pub returns : goal.returns
returns c = search (literal-whole, c.run_length-w.ensures.run) depth 10
