-- `heads::entry` meets its contract.
use Rattle.std.proofs.lemmas.Result.{err_from_is_err_and}
use Rattle.data.proofs.reading.Steps.{mark-wrong, mark-yes, entry-wrong, entry-mark, entry_whole, entry-plus, entry-minus, entry_other}
use Rattle.data.proofs.reading.heads.entry.Goals as goal

pub returns-in_err-token : goal.returns-in_err-token
returns-in_err-token c = let p = err_from_is_err_and c.from_residual.result c.from_residual.ensures.1 in rw (p.1, p.2) (search (entry-wrong, c.in_err-token.was) depth 6)

pub returns-in_err-i : goal.returns-in_err-i
returns-in_err-i c = let p = err_from_is_err_and c.from_residual-in_err-i.result c.from_residual-in_err-i.ensures.1 in rw (p.1, p.2) (search (entry-mark, mark-wrong, c.in_ok-token.was, c.in_err-i.was) depth 10)

pub returns-then-token : goal.returns-then-token
returns-then-token c = search (entry-mark, mark-yes, c.in_ok-token.was, c.in_ok-i.was) depth 10

pub returns-then-token-2 : goal.returns-then-token-2
returns-then-token-2 c = search (entry_whole, c.in_ok-token.was) depth 9

pub returns-then-token-3 : goal.returns-then-token-3
returns-then-token-3 c = search (entry-plus, c.in_ok-token.was) depth 8

pub returns-then-token-4 : goal.returns-then-token-4
returns-then-token-4 c = search (entry-minus, c.in_ok-token.was) depth 8

pub returns : goal.returns
returns c = search (entry_other, c.in_ok-token.was) depth 10
