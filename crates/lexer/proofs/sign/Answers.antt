-- `lexer::sign` meets its contract.
use borrow.Author.Rules.{rules}
use Rattle.lexer.specs.Text.{is_sign}
use Rattle.lexer.proofs.sign.Goals as goal

pub returns-in-43 : goal.returns-in-43
unfolding is_sign
returns-in-43 c = search rules

pub returns-in-45 : goal.returns-in-45
unfolding is_sign
returns-in-45 c = search rules

pub returns-in-42 : goal.returns-in-42
unfolding is_sign
returns-in-42 c = search rules

pub returns-in-44 : goal.returns-in-44
unfolding is_sign
returns-in-44 c = search rules

pub returns-in-59 : goal.returns-in-59
unfolding is_sign
returns-in-59 c = search rules

pub returns-in-58 : goal.returns-in-58
unfolding is_sign
returns-in-58 c = search rules

pub returns-in-61 : goal.returns-in-61
unfolding is_sign
returns-in-61 c = search rules

pub returns-in-40 : goal.returns-in-40
unfolding is_sign
returns-in-40 c = search rules

pub returns-in-41 : goal.returns-in-41
unfolding is_sign
returns-in-41 c = search rules

pub returns-in-91 : goal.returns-in-91
unfolding is_sign
returns-in-91 c = search rules

pub returns-in-93 : goal.returns-in-93
unfolding is_sign
returns-in-93 c = search rules

pub returns-in_default : goal.returns-in_default
unfolding is_sign
returns-in_default c = search rules
