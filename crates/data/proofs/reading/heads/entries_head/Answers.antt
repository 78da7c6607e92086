-- `heads::entries_head` meets its contract.
use Rattle.std.proofs.lemmas.Result.{err_from_is_err_and}
use Rattle.data.proofs.reading.Listings.{rest-wrong, rest-on}
use Rattle.data.proofs.reading.heads.entries_head.Goals as goal

pub returns-in_err-entries : goal.returns-in_err-entries
returns-in_err-entries c = let p = err_from_is_err_and c.from_residual.result c.from_residual.ensures.1 in rw (p.1, p.2) (search (rest-wrong, c.in_err-entries.was) depth 6)

pub returns : goal.returns
returns c = search (rest-on, c.in_ok-entries.was) depth 7
