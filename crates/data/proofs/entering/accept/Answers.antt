-- `entering::accept` meets its contract.
use Rattle.std.proofs.lemmas.Result.{err_from_is_err_and}
use Rattle.data.proofs.Accepting.{accept-unsuited, accept-outside, accept-enters}
use Rattle.data.proofs.entering.accept.Goals as goal

pub returns-then-not-suits : goal.returns-then-not-suits
returns-then-not-suits c = search accept-unsuited depth 6

pub returns-in_err-within : goal.returns-in_err-within
returns-in_err-within c = let p = err_from_is_err_and c.from_residual.result c.from_residual.ensures.1 in rw (p.1, p.2) (search (accept-outside, c.in_err-within.was) depth 8)

pub returns : goal.returns
returns c = search (accept-enters, c.in_ok-within.was) depth 9
