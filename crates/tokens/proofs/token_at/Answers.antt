-- `tokens::token_at` meets its contract.
use Rattle.tokens.proofs.Tables.{looks-past, looks-wrong, looks-token}
use Rattle.tokens.proofs.token_at.Goals as goal

pub returns-then-tokens-at : goal.returns-then-tokens-at
returns-then-tokens-at c = search looks-past

pub returns-then-kind : goal.returns-then-kind
returns-then-kind c = search looks-wrong depth 7

pub returns : goal.returns
returns c = search looks-token depth 6
