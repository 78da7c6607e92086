-- `tokens::head` meets its contract.
use Rattle.std.proofs.lemmas.Result.{err_from_is_err_and}
use Rattle.tokens.proofs.Moved.{head-open, head-index, head-comma}
use Rattle.tokens.proofs.head.Goals as goal

pub returns-in_err-a : goal.returns-in_err-a
returns-in_err-a c = let p = err_from_is_err_and c.from_residual.result c.from_residual.ensures.1 in rw (p.1, p.2, ← c.in_err-a.was) (search (head-open, c.in_err-a.was) depth 6)

pub returns-in_err-b : goal.returns-in_err-b
returns-in_err-b c = let p = err_from_is_err_and c.from_residual-in_err-b.result c.from_residual-in_err-b.ensures.1 in rw (p.1, p.2, ← c.in_err-b.was) (search (head-index, c.in_ok-a.was, c.in_err-b.was) depth 8)

pub returns : goal.returns
returns c = search (head-comma, c.in_ok-a.was, c.in_ok-b.was) depth 8
