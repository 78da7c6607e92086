-- `generator::list_in` meets its contract.
use Rattle.std.proofs.lemmas.Result.{err_from_is_err_and}
use Rattle.generator.proofs.Listings.{print-refused, print-done}
use Rattle.generator.proofs.list_in.Goals as goal

pub returns-in_err-problem : goal.returns-in_err-problem
returns-in_err-problem g c = λ f d. let p = err_from_is_err_and c.from_residual.result c.from_residual.ensures.1 in rw (p.1, p.2) (search (print-refused, c.in_err-problem.was) depth 8)

pub returns : goal.returns
returns g c = λ f d. let w = d _ _ _ _ c.print.ensures in search (print-done, c.in_ok-problem.was, w.report) depth 8
