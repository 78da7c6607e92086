-- `elements::after` meets its contract.
use Rattle.std.proofs.lemmas.Result.{err_from_is_err_and}
use Rattle.elements.proofs.Going.{after_none, after-found, after-refused, after_last, after-turns}
use Rattle.elements.proofs.+after.Goals as goal

pub returns-then-n-m : goal.returns-then-n-m
returns-then-n-m t c = search after_none

pub returns-in_err-inner : goal.returns-in_err-inner
returns-in_err-inner t c = let p = err_from_is_err_and c.from_residual.result c.from_residual.ensures.1 in rw (p.1, p.2) (search (after-refused, c.in_err-inner.was) depth 8)

pub returns-then-is_some : goal.returns-then-is_some
returns-then-is_some t c = search (after-found, c.in_ok-inner.was) depth 8

pub returns-then-not-has_more : goal.returns-then-not-has_more
returns-then-not-has_more t c = search (after_last, c.in_ok-inner.was) depth 10

pub returns : goal.returns
returns t c = search (after-turns, c.in_ok-inner.was) depth 13
