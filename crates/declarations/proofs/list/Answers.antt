-- `declarations::list` meets its contract.
use Rattle.std.proofs.lemmas.Result.{err_from_is_err_and}
use Rattle.declarations.proofs.ListLaws.{list-word, list-none, list-wrong}
use Rattle.declarations.proofs.list.Goals as goal

pub returns-in_err-token : goal.returns-in_err-token
returns-in_err-token c = let p = err_from_is_err_and c.from_residual.result c.from_residual.ensures.1 in rw (p.1, p.2) (search (list-wrong, c.in_err-token.was) depth 7)

pub returns-then-token-number : goal.returns-then-token-number
returns-then-token-number c = search (list-none, c.in_ok-token.was) depth 8

pub returns : goal.returns
returns c = search (list-word, c.in_ok-token.was) depth 8
