-- `add_sort` meets its contract.
use Rattle.std.proofs.lemmas.Result.{err_from_is_err_and}
use Rattle.problem.proofs.variables.Sorts.{sort-start, sort-skip, sort-more, sort-refused, sort-end}
use Rattle.problem.proofs.variables.add_sort.Goals as goal

pub loop-i-init : goal.loop-i-init
loop-i-init c = search sort-start

pub loop-i-preserved-then-word_of-number : goal.loop-i-preserved-then-word_of-number
loop-i-preserved-then-word_of-number c = sort-skip _ _ _ _ _ _ _ _ _ _ c.loop-i.invariant c.loop-i-test.true _ c.word_of.ensures _ c.number.ensures c.if-word_of-number.true

pub returns-in_err-n : goal.returns-in_err-n
returns-in_err-n c = let p = err_from_is_err_and c.from_residual.result c.from_residual.ensures.1 in rw (p.1, p.2) (search (sort-refused, c.in_err-n.was) depth 10)

pub loop-i-preserved : goal.loop-i-preserved
loop-i-preserved c = search (sort-more, c.in_ok-n.was) depth 10

pub returns : goal.returns
returns c = search sort-end depth 5
