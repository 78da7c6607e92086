-- `lexer::name` meets its contract.
use Rattle.rules.specs.Limits.{name_length}
use Rattle.lexer.proofs.Tokens.{name-word, name_new, name-long}
use Rattle.lexer.proofs.name.Goals as goal

pub returns-in-Some : goal.returns-in-Some
returns-in-Some c = search (name-word, c.run_length-n.ensures.run) depth 9

pub returns-then-n-le-NAME_LENGTH : goal.returns-then-n-le-NAME_LENGTH
unfolding name_length
returns-then-n-le-NAME_LENGTH c = search (name_new, c.run_length-n.ensures.run) depth 9

pub returns : goal.returns
unfolding name_length
returns c = search (name-long, c.run_length-n.ensures.run) depth 9
