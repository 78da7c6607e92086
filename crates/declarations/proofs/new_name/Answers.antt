-- `declarations::new_name` meets its contract.
use Rattle.std.proofs.lemmas.Result.{err_from_is_err_and}
use Rattle.declarations.proofs.RowLaws.{title-wrong, title-no-name, title-again, title-full, title-new}
use Rattle.declarations.proofs.new_name.Goals as goal

pub returns-in_err-token : goal.returns-in_err-token
returns-in_err-token c = let p = err_from_is_err_and c.from_residual.result c.from_residual.ensures.1 in rw (p.1, p.2) (search (title-wrong, c.in_err-token.was) depth 6)

pub returns-then-token : goal.returns-then-token
returns-then-token c = search (title-no-name, c.in_ok-token.was) depth 8

pub returns-in-Some : goal.returns-in-Some
returns-in-Some c = search (title-again, c.in_ok-token.was) depth 9

pub returns-then-text-ge-NAME_LIMIT : goal.returns-then-text-ge-NAME_LIMIT
returns-then-text-ge-NAME_LIMIT c = search (title-full, c.in_ok-token.was) depth 10

pub returns : goal.returns
returns c = search (title-new, c.in_ok-token.was) depth 10
