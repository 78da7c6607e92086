-- `parser::parse` meets its contract.
use Rattle.std.proofs.lemmas.Result.{err_from_is_err_and}
use Rattle.parser.proofs.Laws.{parse-opening, parse-names, parse-none, parse-body}
use Rattle.parser.proofs.parse.Goals as goal

pub returns-in_err-title : goal.returns-in_err-title
returns-in_err-title c = let p = err_from_is_err_and c.from_residual.result c.from_residual.ensures.1 in rw (p.1, p.2) (search (parse-opening, c.in_err-title.ensures) depth 7)

pub returns-in_err-count : goal.returns-in_err-count
returns-in_err-count c = let p = err_from_is_err_and c.from_residual-in_err-count.result c.from_residual-in_err-count.ensures.1 in rw (p.1, p.2) (search (parse-names, c.in_ok-title.ensures, c.in_err-count.ensures) depth 9)

pub returns-in_err-body : goal.returns-in_err-body
returns-in_err-body c = let p = err_from_is_err_and c.from_residual-in_err-body.result c.from_residual-in_err-body.ensures.1 in rw (p.1, p.2) (search (parse-none, c.in_ok-title.ensures, c.in_ok-count.ensures, c.in_err-body.ensures) depth 10)

pub returns : goal.returns
returns c = search (parse-body, c.in_ok-title.ensures, c.in_ok-count.ensures, c.in_ok-body.ensures) depth 11
