-- `declarations::entries` meets its contract.
use Rattle.std.proofs.lemmas.Bool.{not-true, not-false}
use Rattle.std.proofs.lemmas.Result.{err_from_is_err_and}
use Rattle.tokens.proofs.Sorts.{sort-small}
use Rattle.declarations.proofs.ListLaws.{entries-start, entries_none, entries-refused, entries-end, entries-on}
use Rattle.declarations.proofs.entries.Goals as goal

pub loop-init : goal.loop-init
loop-init c = search entries-start depth 6

pub returns-in_err-row : goal.returns-in_err-row
returns-in_err-row c = let p = err_from_is_err_and c.from_residual.result c.from_residual.ensures.1 in rw (p.1, p.2) (search (entries-refused, c.in_err-row.ensures) depth 9)

pub returns-then-not-row : goal.returns-then-not-row
returns-then-not-row c = search (entries-end, sort-small, not-true, c.in_ok-row.ensures) depth 14

pub loop-preserved : goal.loop-preserved
loop-preserved c = search (entries-on, sort-small, not-false, c.in_ok-row.ensures) depth 14

pub returns : goal.returns
returns c = search entries_none depth 6
