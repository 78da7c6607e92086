-- `heads::signed_entry` meets its contract.
use Rattle.std.proofs.lemmas.Result.{err_from_is_err_and}
use Rattle.data.proofs.reading.Steps.{fixed-wrong, fixed-yes, fixed_no}
use Rattle.data.proofs.reading.heads.signed_entry.Goals as goal

pub returns-in_err-token : goal.returns-in_err-token
returns-in_err-token c = let p = err_from_is_err_and c.from_residual.result c.from_residual.ensures.1 in rw (p.1, p.2) (search (fixed-wrong, c.in_err-token.was) depth 6)

pub returns-then-token : goal.returns-then-token
returns-then-token c = search (fixed_no, c.in_ok-token.was) depth 7

pub returns : goal.returns
returns c = search (fixed-yes, c.in_ok-token.was) depth 8
