-- `declarations::lists` meets its contract.
use Rattle.std.proofs.lemmas.Result.{err_from_is_err_and}
use Rattle.declarations.proofs.ListLaws.{lists-start, lists-end, lists-refused, lists-on}
use Rattle.declarations.proofs.lists.Goals as goal

pub loop-sort-init : goal.loop-sort-init
loop-sort-init c = search lists-start

pub returns-in_err-count : goal.returns-in_err-count
returns-in_err-count c = let p = err_from_is_err_and c.from_residual.result c.from_residual.ensures.1 in rw (p.1, p.2) (search (lists-refused, c.in_err-count.ensures) depth 8)

pub loop-sort-preserved : goal.loop-sort-preserved
loop-sort-preserved c = search (lists-on, c.in_ok-count.ensures) depth 8

pub returns : goal.returns
returns c = search lists-end depth 6
