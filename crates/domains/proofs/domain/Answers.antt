-- `domains::domain` meets its contract.
use Rattle.std.proofs.lemmas.Result.{err_from_is_err_and}
use Rattle.domains.proofs.Laws.{domain-open, domain-entries}
use Rattle.domains.proofs.domain.Goals as goal

pub returns-in_err-open : goal.returns-in_err-open
returns-in_err-open c = let p = err_from_is_err_and c.from_residual.result c.from_residual.ensures.1 in rw (p.1, p.2, ← c.in_err-open.was) (search (domain-open, c.in_err-open.was) depth 6)

pub returns : goal.returns
returns c = search (domain-entries, c.in_ok-open.was) depth 7
