-- `lexer::token_at` meets its contract.
use Rattle.lexer.proofs.Tokens.{token-sign, token-number, token-name, token-word, token-other}
use Rattle.lexer.proofs.token_at.Goals as goal

pub returns-in-Some : goal.returns-in-Some
returns-in-Some c = search token-sign depth 6

pub returns-then-is_digit-pointed : goal.returns-then-is_digit-pointed
returns-then-is_digit-pointed c = search token-number depth 11

pub returns-then-is_small : goal.returns-then-is_small
returns-then-is_small c = search token-name depth 13

pub returns-then-is_capital : goal.returns-then-is_capital
returns-then-is_capital c = search token-word depth 15

pub returns : goal.returns
returns c = search token-other depth 15
