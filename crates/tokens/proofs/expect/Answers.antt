-- `tokens::expect` meets its contract.
use Rattle.std.proofs.lemmas.Result.{err_from_is_err_and}
use Rattle.tokens.proofs.Moved.{expect-wrong, expect-yes, expect-no}
use Rattle.tokens.proofs.expect.Goals as goal

pub returns-in_err-token : goal.returns-in_err-token
returns-in_err-token c = let p = err_from_is_err_and c.from_residual.result c.from_residual.ensures.1 in rw (p.1, p.2) (search (expect-wrong, c.in_err-token.was) depth 6)

pub returns-then-m-c : goal.returns-then-m-c
returns-then-m-c c = search (expect-no, c.in_ok-token.was) depth 8

pub returns : goal.returns
returns c = search (expect-yes, c.in_ok-token.was) depth 8
