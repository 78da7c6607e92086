-- `declarations::read_row` meets its contract.
use Rattle.std.proofs.lemmas.Result.{err_from_is_err_and}
use Rattle.declarations.proofs.RowLaws.{row-title, row-entry, row-sign, row-all}
use Rattle.declarations.proofs.read_row.Goals as goal

pub returns-in_err-title : goal.returns-in_err-title
returns-in_err-title c = let p = err_from_is_err_and c.from_residual.result c.from_residual.ensures.1 in rw (p.1, p.2) (search (row-title, c.in_err-title.ensures) depth 7)

pub returns-in_err-entry : goal.returns-in_err-entry
returns-in_err-entry c = let p = err_from_is_err_and c.from_residual-in_err-entry.result c.from_residual-in_err-entry.ensures.1 in rw (p.1, p.2) (search (row-entry, c.in_ok-title.ensures, c.in_err-entry.ensures) depth 9)

pub returns-in_err-more : goal.returns-in_err-more
returns-in_err-more c = let p = err_from_is_err_and c.from_residual-in_err-more.result c.from_residual-in_err-more.ensures.1 in rw (p.1, p.2) (search (row-sign, c.in_ok-title.ensures, c.in_ok-entry.ensures, c.in_err-more.ensures) depth 10)

pub returns : goal.returns
returns c = search (row-all, c.in_ok-title.ensures, c.in_ok-entry.ensures, c.in_ok-more.ensures) depth 11
