-- `missing::all_given` meets its contract: the names before i have their data.
use Rattle.std.proofs.lemmas.Result.{err_from_is_err_and}
use Rattle.problem.proofs.missing.Names.{given-none, given-more, given-all, given-refused}
use Rattle.problem.proofs.missing.all_given.Goals as goal

pub loop-i-init : goal.loop-i-init
loop-i-init c = given-none _ _ _ _

pub returns-in_err-name_given : goal.returns-in_err-name_given
returns-in_err-name_given c = let p = err_from_is_err_and c.from_residual.result c.from_residual.ensures.1 in rw (p.1, p.2) (search (given-refused, c.in_err-name_given.was) depth 6)

pub loop-i-preserved : goal.loop-i-preserved
loop-i-preserved c = search (given-more, c.in_ok-name_given.was) depth 6

pub returns : goal.returns
returns c = search given-all depth 5
