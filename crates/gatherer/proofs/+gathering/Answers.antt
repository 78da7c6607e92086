-- The cycle of terms, forms and sigmas: each function meets its contract. The number of tokens behind the position
-- falls from a sigma to the sigma in its body.
use Rattle.std.proofs.lemmas.Result.{err_from_is_err_and}
use Rattle.gatherer.proofs.Forms.{body-sigma, body-form, body-wrong, form-term, form-rest, form-sign, sigma-full, sigma-runs, sigma-refused, term-variable, term-sigma, term-end, sigma-falls, term-falls, body-falls}
use Rattle.gatherer.proofs.Loops.{runs-start, runs-refused, runs_on, runs-end, terms-start, terms-refused, terms-end, terms-wrong, terms-on, terms-none}
use Rattle.gatherer.proofs.+gathering.Goals as goal

pub body-returns-in_err-token : goal.body-returns-in_err-token
body-returns-in_err-token t c = let p = err_from_is_err_and c.from_residual.result c.from_residual.ensures.1 in rw (p.1, p.2) (search (body-wrong, c.in_err-token.was) depth 6)

pub body-sigma-requires : goal.body-sigma-requires
body-sigma-requires t c = search (body-falls, c.in_ok-token.was) depth 6

pub body-returns-then-token : goal.body-returns-then-token
body-returns-then-token t c = search (body-sigma, c.in_ok-token.was) depth 8

pub body-returns : goal.body-returns
body-returns t c = search (body-form, c.in_ok-token.was) depth 8

pub form-returns-in_err-negative : goal.form-returns-in_err-negative
form-returns-in_err-negative t c = let p = err_from_is_err_and c.from_residual.result c.from_residual.ensures.1 in rw (p.1, p.2) (search (form-sign, c.in_err-negative.was) depth 6)

pub form-returns-in_err-b : goal.form-returns-in_err-b
form-returns-in_err-b t c =
    let p = err_from_is_err_and c.from_residual-in_err-b.result c.from_residual-in_err-b.ensures.1 in
    rw (p.1, p.2) (search (form-term, c.in_ok-negative.was, c.in_err-b.was) depth 9)

pub form-returns : goal.form-returns
form-returns t c = search (form-rest, c.in_ok-negative.was, c.in_ok-b.was) depth 10

pub runs-loop-j-init : goal.runs-loop-j-init
runs-loop-j-init t c = search runs-start depth 4

pub runs-returns-in_err-body : goal.runs-returns-in_err-body
runs-returns-in_err-body t c = let p = err_from_is_err_and c.from_residual.result c.from_residual.ensures.1 in rw (p.1, p.2) (search (runs-refused, c.in_err-body.was) depth 9)

pub runs-loop-j-preserved : goal.runs-loop-j-preserved
runs-loop-j-preserved t c = search (runs_on, c.in_ok-body.was) depth 10

pub runs-returns : goal.runs-returns
runs-returns t c = search runs-end depth 7

pub sigma-returns-then-cx-eq0 : goal.sigma-returns-then-cx-eq0
sigma-returns-then-cx-eq0 t c = search sigma-full

pub sigma-returns-in_err-run : goal.sigma-returns-in_err-run
sigma-returns-in_err-run t c = let p = err_from_is_err_and c.from_residual.result c.from_residual.ensures.1 in rw (p.1, p.2) (search (sigma-refused, c.in_err-run.was) depth 7)

pub sigma-runs-requires : goal.sigma-runs-requires
sigma-runs-requires t c = search (sigma-falls, c.in_ok-run.was) depth 6

pub sigma-returns : goal.sigma-returns
sigma-returns t c = search (sigma-runs, c.in_ok-run.was) depth 8

pub term-returns-in_err-end : goal.term-returns-in_err-end
term-returns-in_err-end t c = let p = err_from_is_err_and c.from_residual.result c.from_residual.ensures.1 in rw (p.1, p.2) (search (term-end, c.in_err-end.was) depth 6)

pub term-returns-in-Variable : goal.term-returns-in-Variable
term-returns-in-Variable t c = search (term-variable, c.in_ok-end.was) depth 7

pub term-sigma-requires : goal.term-sigma-requires
term-sigma-requires t c = search (term-falls, c.in_ok-end.was) depth 6

pub term-returns-in-Sigma : goal.term-returns-in-Sigma
term-returns-in-Sigma t c = search (term-sigma, c.in_ok-end.was) depth 7

pub terms-loop-init : goal.terms-loop-init
terms-loop-init t c = search terms-start depth 4

pub terms-returns-in_err-token : goal.terms-returns-in_err-token
terms-returns-in_err-token t c = let p = err_from_is_err_and c.from_residual.result c.from_residual.ensures.1 in rw (p.1, p.2) (search (terms-wrong, c.in_err-token.was) depth 8)

pub terms-returns-then-not-joined : goal.terms-returns-then-not-joined
terms-returns-then-not-joined t c = search (terms-end, c.in_ok-token.was) depth 9

pub terms-returns-in_err-a : goal.terms-returns-in_err-a
terms-returns-in_err-a t c =
    let p = err_from_is_err_and c.from_residual-in_err-a.result c.from_residual-in_err-a.ensures.1 in
    rw (p.1, p.2) (search (terms-refused, c.in_ok-token.was, c.in_err-a.was) depth 12)

pub terms-loop-preserved : goal.terms-loop-preserved
terms-loop-preserved t c = search (terms-on, c.in_ok-token.was, c.in_ok-a.was) depth 13

pub terms-returns : goal.terms-returns
terms-returns t c = search terms-none depth 6
