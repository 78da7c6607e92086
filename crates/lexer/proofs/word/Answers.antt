-- `lexer::word` meets its contract.
use Rattle.lexer.proofs.Tokens.{word-mark, word-wrong}
use Rattle.lexer.proofs.word.Goals as goal

pub returns-in-Some : goal.returns-in-Some
returns-in-Some c = search (word-mark, c.run_length-n.ensures.run) depth 9

pub returns : goal.returns
returns c = search (word-wrong, c.run_length-n.ensures.run) depth 9
