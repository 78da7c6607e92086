-- `tokens::bracket` meets its contract.
use Rattle.std.proofs.lemmas.Result.{err_from_is_err_and}
use Rattle.tokens.proofs.Moved.{bracket-wrong, bracket-no, bracket-full, bracket-yes}
use Rattle.tokens.proofs.bracket.Goals as goal

pub returns-in_err-token : goal.returns-in_err-token
returns-in_err-token c = let p = err_from_is_err_and c.from_residual.result c.from_residual.ensures.1 in rw (p.1, p.2) (search (bracket-wrong, c.in_err-token.was) depth 6)

pub returns-then-m-c : goal.returns-then-m-c
returns-then-m-c c = search (bracket-no, c.in_ok-token.was) depth 8

pub returns-then-nest-eq0 : goal.returns-then-nest-eq0
returns-then-nest-eq0 c = search (bracket-full, c.in_ok-token.was) depth 9

pub returns : goal.returns
returns c = search (bracket-yes, c.in_ok-token.was) depth 9
