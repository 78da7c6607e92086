-- `row_at` meets its contract.
use Rattle.std.proofs.lemmas.Result.{err_from_is_err_and}
use Rattle.matrix.proofs.sides.RowLaws.{row-value, row-side, row-form}
use Rattle.matrix.proofs.sides.row_at.Goals as goal

pub returns-in_err-gather : goal.returns-in_err-gather
returns-in_err-gather c = let p = err_from_is_err_and c.from_residual.result c.from_residual.ensures.1 in rw (p.1, p.2) (search (row-form, c.in_err-gather.was) depth 7)

pub returns-in_err-v : goal.returns-in_err-v
returns-in_err-v c =
    let p = err_from_is_err_and c.from_residual-in_err-v.result c.from_residual-in_err-v.ensures.1 in
    rw (p.1, p.2) (search (row-side, c.in_ok-gather.was, c.in_err-v.was) depth 10)

pub returns : goal.returns
returns c = search (row-value, c.in_ok-gather.was, c.in_ok-v.was) depth 11
