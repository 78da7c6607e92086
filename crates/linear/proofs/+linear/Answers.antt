-- The cycle of terms, forms and sigmas: each function meets its contract.
use Rattle.std.proofs.lemmas.Result.{err_from_is_err_and}
use Rattle.linear.proofs.Laws.{term-start, term-none, term-wrong, term-sigma, term-variable, term-primary, term-star, term-on, terms-start, terms-none, terms-wrong, terms-end, terms-refused, terms-on, form-sign, form-term, form-rest, body-wrong, body-sigma, body-plain, sigma-head, sigma-full, sigma-lower, sigma-upper, sigma-body, sigma-close}
use Rattle.linear.proofs.+linear.Goals as goal

pub body-returns-in_err-token : goal.body-returns-in_err-token
body-returns-in_err-token t c = let p = err_from_is_err_and c.from_residual.result c.from_residual.ensures.1 in rw (p.1, p.2) (search (body-wrong, c.in_err-token.was) depth 6)

pub body-returns-then-token : goal.body-returns-then-token
body-returns-then-token t c = search (body-sigma, c.in_ok-token.was) depth 8

pub body-returns : goal.body-returns
body-returns t c = search (body-plain, c.in_ok-token.was) depth 8

pub form-returns-in_err-lead : goal.form-returns-in_err-lead
form-returns-in_err-lead t c = let p = err_from_is_err_and c.from_residual.result c.from_residual.ensures.1 in rw (p.1, p.2, ← c.in_err-lead.was) (search (form-sign, c.in_err-lead.was) depth 6)

pub form-returns-in_err-first : goal.form-returns-in_err-first
form-returns-in_err-first t c = let p = err_from_is_err_and c.from_residual-in_err-first.result c.from_residual-in_err-first.ensures.1 in rw (p.1, p.2, ← c.in_err-first.was) (search (form-term, c.in_ok-lead.was, c.in_err-first.was) depth 8)

pub form-returns : goal.form-returns
form-returns t c = search (form-rest, c.in_ok-lead.was, c.in_ok-first.was) depth 9

pub sigma-returns-in_err-head : goal.sigma-returns-in_err-head
sigma-returns-in_err-head t c = let p = err_from_is_err_and c.from_residual.result c.from_residual.ensures.1 in rw (p.1, p.2, ← c.in_err-head.was) (search (sigma-head, c.in_err-head.was) depth 6)

pub sigma-returns-then-nest-eq0 : goal.sigma-returns-then-nest-eq0
sigma-returns-then-nest-eq0 t c = search (sigma-full, c.in_ok-head.was) depth 7

pub sigma-returns-in_err-lower : goal.sigma-returns-in_err-lower
sigma-returns-in_err-lower t c = let p = err_from_is_err_and c.from_residual-in_err-lower.result c.from_residual-in_err-lower.ensures.1 in rw (p.1, p.2, ← c.in_err-lower.was) (search (sigma-lower, c.in_ok-head.was, c.in_err-lower.was) depth 9)

pub sigma-returns-in_err-upper : goal.sigma-returns-in_err-upper
sigma-returns-in_err-upper t c = let p = err_from_is_err_and c.from_residual-in_err-upper.result c.from_residual-in_err-upper.ensures.1 in rw (p.1, p.2, ← c.in_err-upper.was) (search (sigma-upper, c.in_ok-head.was, c.in_ok-lower.was, c.in_err-upper.was) depth 11)

pub sigma-returns-in_err-inner : goal.sigma-returns-in_err-inner
sigma-returns-in_err-inner t c = let p = err_from_is_err_and c.from_residual-in_err-inner.result c.from_residual-in_err-inner.ensures.1 in rw (p.1, p.2, ← c.in_err-inner.was) (search (sigma-body, c.in_ok-head.was, c.in_ok-lower.was, c.in_ok-upper.was, c.in_err-inner.was) depth 13)

pub sigma-returns : goal.sigma-returns
sigma-returns t c = search (sigma-close, c.in_ok-head.was, c.in_ok-lower.was, c.in_ok-upper.was, c.in_ok-inner.was) depth 14

pub term-loop-init : goal.term-loop-init
term-loop-init t c = search term-start

pub term-returns-in_err-token : goal.term-returns-in_err-token
term-returns-in_err-token t c = let p = err_from_is_err_and c.from_residual.result c.from_residual.ensures.1 in rw (p.1, p.2) (search (term-wrong, c.in_err-token.was) depth 8)

pub term-returns-then-sigmas-token : goal.term-returns-then-sigmas-token
term-returns-then-sigmas-token t c = search (term-sigma, c.in_ok-token.was) depth 10

pub term-returns-in-Some : goal.term-returns-in-Some
term-returns-in-Some t c = search (term-variable, c.in_ok-token.was) depth 12

pub term-returns-in_err-factor : goal.term-returns-in_err-factor
term-returns-in_err-factor t c = let p = err_from_is_err_and c.from_residual-in_err-factor.result c.from_residual-in_err-factor.ensures.1 in rw (p.1, p.2, ← c.in_err-factor.was) (search (term-primary, c.in_ok-token.was, c.in_err-factor.was) depth 14)

pub term-returns-in_err-a : goal.term-returns-in_err-a
term-returns-in_err-a t c = let p = err_from_is_err_and c.from_residual-in_err-a.result c.from_residual-in_err-a.ensures.1 in rw (p.1, p.2, ← c.in_err-a.was) (search (term-star, c.in_ok-token.was, c.in_ok-factor.was, c.in_err-a.was) depth 16)

pub term-loop-preserved : goal.term-loop-preserved
term-loop-preserved t c = search (term-on, c.in_ok-token.was, c.in_ok-factor.was, c.in_ok-a.was) depth 16

pub term-returns : goal.term-returns
term-returns t c = search term-none depth 6

pub terms-loop-init : goal.terms-loop-init
terms-loop-init t c = search terms-start

pub terms-returns-in_err-token : goal.terms-returns-in_err-token
terms-returns-in_err-token t c = let p = err_from_is_err_and c.from_residual.result c.from_residual.ensures.1 in rw (p.1, p.2) (search (terms-wrong, c.in_err-token.was) depth 8)

pub terms-returns-then-not-joined : goal.terms-returns-then-not-joined
terms-returns-then-not-joined t c = search (terms-end, c.in_ok-token.was) depth 10

pub terms-returns-in_err-a : goal.terms-returns-in_err-a
terms-returns-in_err-a t c = let p = err_from_is_err_and c.from_residual-in_err-a.result c.from_residual-in_err-a.ensures.1 in rw (p.1, p.2, ← c.in_err-a.was) (search (terms-refused, c.in_ok-token.was, c.in_err-a.was) depth 12)

pub terms-loop-preserved : goal.terms-loop-preserved
terms-loop-preserved t c = search (terms-on, c.in_ok-token.was, c.in_ok-a.was) depth 12

pub terms-returns : goal.terms-returns
terms-returns t c = search terms-none depth 6
