-- `declarations::index_joint` meets its contract.
use Rattle.std.proofs.lemmas.Result.{err_from_is_err_and}
use Rattle.declarations.proofs.IndexLaws.{joint-wrong, joint-comma, joint-open, joint-close}
use Rattle.declarations.proofs.index_joint.Goals as goal

pub returns-in_err-token : goal.returns-in_err-token
returns-in_err-token c = let p = err_from_is_err_and c.from_residual.result c.from_residual.ensures.1 in rw (p.1, p.2) (search (joint-wrong, c.in_err-token.was) depth 6)

pub returns-then-left-token : goal.returns-then-left-token
returns-then-left-token c = search (joint-comma, c.in_ok-token.was) depth 8

pub returns-in_err-next : goal.returns-in_err-next
returns-in_err-next c = let p = err_from_is_err_and c.from_residual-in_err-next.result c.from_residual-in_err-next.ensures.1 in rw (p.1, p.2, ← c.in_err-next.was) (search (joint-open, c.in_ok-token.was, c.in_err-next.was) depth 9)

pub returns : goal.returns
returns c = search (joint-close, c.in_ok-token.was, c.in_ok-next.was) depth 10
