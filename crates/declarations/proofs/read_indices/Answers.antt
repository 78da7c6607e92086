-- `declarations::read_indices` meets its contract.
use Rattle.std.proofs.lemmas.Result.{err_from_is_err_and}
use Rattle.declarations.proofs.IndexLaws.{indices-start, indices-full, indices-index, indices-sign, indices-end, indices-on}
use Rattle.declarations.proofs.read_indices.Goals as goal

pub loop-n-init : goal.loop-n-init
loop-n-init c = search indices-start depth 6

pub returns-in_err-number : goal.returns-in_err-number
returns-in_err-number c = let p = err_from_is_err_and c.from_residual.result c.from_residual.ensures.1 in rw (p.1, p.2) (search (indices-index, c.in_err-number.ensures) depth 8)

pub returns-in_err-more : goal.returns-in_err-more
returns-in_err-more c = let p = err_from_is_err_and c.from_residual-in_err-more.result c.from_residual-in_err-more.ensures.1 in rw (p.1, p.2) (search (indices-sign, c.in_ok-number.ensures, c.in_err-more.ensures) depth 10)

pub loop-n-preserved : goal.loop-n-preserved
loop-n-preserved c = search (indices-on, c.in_ok-number.ensures, c.in_ok-more.ensures) depth 11

pub returns-then-not-more : goal.returns-then-not-more
returns-then-not-more c = search (indices-end, c.in_ok-number.ensures, c.in_ok-more.ensures) depth 11

pub returns : goal.returns
returns c = search indices-full depth 6
