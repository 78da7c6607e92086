-- `ends_at` meets its contract.
use Rattle.std.proofs.lemmas.Result.{err_from_is_err_and}
use Rattle.matrix.proofs.sides.EndLaws.{ends-refused, ends-alone, ends_low, ends-both}
use Rattle.matrix.proofs.sides.ends_at.Goals as goal

pub returns-in_err-v : goal.returns-in_err-v
returns-in_err-v c = let p = err_from_is_err_and c.from_residual.result c.from_residual.ensures.1 in rw (p.1, p.2) (search (ends-refused, c.in_err-v.was) depth 7)

pub returns-then-not-floor : goal.returns-then-not-floor
returns-then-not-floor c = search (ends-alone, c.in_ok-v.was) depth 8

pub returns-in_err-w : goal.returns-in_err-w
returns-in_err-w c =
    let p = err_from_is_err_and c.from_residual-in_err-w.result c.from_residual-in_err-w.ensures.1 in
    rw (p.1, p.2) (search (ends_low, c.in_ok-v.was, c.in_err-w.was) depth 13)

pub returns : goal.returns
returns c = search (ends-both, c.in_ok-v.was, c.in_ok-w.was) depth 14
