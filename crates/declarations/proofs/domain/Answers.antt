-- `declarations::domain` meets its contract.
use Rattle.std.proofs.lemmas.Result.{err_from_is_err_and}
use Rattle.declarations.proofs.EntryLaws.{domain-open, domain-list, domain-first, domain-due, domain-all}
use Rattle.declarations.proofs.domain.Goals as goal

pub returns-in_err-open : goal.returns-in_err-open
returns-in_err-open c = let p = err_from_is_err_and c.from_residual.result c.from_residual.ensures.1 in rw (p.1, p.2, ← c.in_err-open.was) (search (domain-open, c.in_err-open.was) depth 6)

pub returns-in_err-list : goal.returns-in_err-list
returns-in_err-list c = let p = err_from_is_err_and c.from_residual-in_err-list.result c.from_residual-in_err-list.ensures.1 in rw (p.1, p.2) (search (domain-list, c.in_ok-open.was, c.in_err-list.ensures) depth 8)

pub returns-in_err-first : goal.returns-in_err-first
returns-in_err-first c = let p = err_from_is_err_and c.from_residual-in_err-first.result c.from_residual-in_err-first.ensures.1 in rw (p.1, p.2, ← c.in_err-first.was) (search (domain-first, c.in_ok-open.was, c.in_ok-list.ensures, c.in_err-first.was) depth 10)

pub returns-in_err-end : goal.returns-in_err-end
returns-in_err-end c = let p = err_from_is_err_and c.from_residual-in_err-end.result c.from_residual-in_err-end.ensures.1 in rw (p.1, p.2, ← c.in_err-end.was) (search (domain-due, c.in_ok-open.was, c.in_ok-list.ensures, c.in_ok-first.was, c.in_err-end.was) depth 11)

pub returns : goal.returns
returns c = search (domain-all, c.in_ok-open.was, c.in_ok-list.ensures, c.in_ok-first.was, c.in_ok-end.was) depth 12
