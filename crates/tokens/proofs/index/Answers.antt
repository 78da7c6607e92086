-- `tokens::index` meets its contract.
use Rattle.std.proofs.lemmas.Result.{err_from_is_err_and}
use Rattle.tokens.proofs.Moved.{index-wrong, index-yes, index-other}
use Rattle.tokens.proofs.index.Goals as goal

pub returns-in_err-name : goal.returns-in_err-name
returns-in_err-name c = let p = err_from_is_err_and c.from_residual.result c.from_residual.ensures.1 in rw (p.1, p.2) (search (index-wrong, c.in_err-name.was) depth 6)

pub returns-then-name : goal.returns-then-name
returns-then-name c = search (index-other, c.in_ok-name.was) depth 7

pub returns : goal.returns
returns c = search (index-yes, c.in_ok-name.was) depth 7
