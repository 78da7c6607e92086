-- `parser::read_opening` meets its contract.
use Rattle.std.proofs.lemmas.Result.{err_from_is_err_and}
use Rattle.parser.proofs.Laws.{opening-word, opening-none, opening-title}
use Rattle.parser.proofs.read_opening.Goals as goal

pub returns-in_err-title : goal.returns-in_err-title
returns-in_err-title c = let p = err_from_is_err_and c.from_residual.result c.from_residual.ensures.1 in rw (p.1, p.2, ← c.in_err-title.was) (search (opening-word, c.in_err-title.was) depth 6)

pub returns-in_err-end : goal.returns-in_err-end
returns-in_err-end c = let p = err_from_is_err_and c.from_residual-in_err-end.result c.from_residual-in_err-end.ensures.1 in rw (p.1, p.2, ← c.in_err-end.was) (search (opening-none, c.in_ok-title.was, c.in_err-end.was) depth 7)

pub returns : goal.returns
returns c = search (opening-title, c.in_ok-title.was, c.in_ok-end.was) depth 8
