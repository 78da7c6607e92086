-- `lexer::string` meets its contract.
use Rattle.rules.specs.Limits.{string_length}
use Rattle.lexer.proofs.Tokens.{string-strange, string-good, string-wrong}
use Rattle.lexer.proofs.string.Goals as goal

pub returns-then-good-n : goal.returns-then-good-n
returns-then-good-n c = search (string-strange, c.run_length-good.ensures.run) depth 9

pub returns-then-end-length : goal.returns-then-end-length
unfolding string_length
returns-then-end-length c = search (string-good, c.run_length-good.ensures.run) depth 10

pub returns : goal.returns
unfolding string_length
returns c = search (string-wrong, c.run_length-good.ensures.run) depth 10
