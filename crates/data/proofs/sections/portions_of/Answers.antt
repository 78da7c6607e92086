-- `sections::portions_of` meets its contract.
use Rattle.std.proofs.lemmas.Result.{err_from_is_err_and}
use Rattle.data.proofs.Filling.{portions-start, portions-none, portions-refused, portions-wrong, portions-end, portions-on}
use Rattle.data.proofs.sections.portions_of.Goals as goal

pub loop-init : goal.loop-init
loop-init c = search portions-start depth 4

pub returns-in_err-next : goal.returns-in_err-next
returns-in_err-next c = let p = err_from_is_err_and c.from_residual.result c.from_residual.ensures.1 in rw (p.1, p.2, ← c.in_err-next.was) (search (portions-refused, c.in_err-next.was) depth 8)

pub returns-in_err-token : goal.returns-in_err-token
returns-in_err-token c = let p = err_from_is_err_and c.from_residual-in_err-token.result c.from_residual-in_err-token.ensures.1 in rw (p.1, p.2) (search (portions-wrong, c.in_ok-next.was, c.in_err-token.was) depth 10)

pub returns-then-token : goal.returns-then-token
returns-then-token c = search (portions-end, c.in_ok-next.was, c.in_ok-token.was) depth 11

pub loop-preserved : goal.loop-preserved
loop-preserved c = search (portions-on, c.in_ok-next.was, c.in_ok-token.was) depth 11

pub returns : goal.returns
returns c = search portions-none depth 5
