-- The cycle of formulas: each function meets its contract.
use Rattle.std.proofs.lemmas.Result.{err_from_is_err_and}
use Rattle.formulas.proofs.Laws.{inside-full, inside-formula, part-refused, part-sign, nested-full, nested-part, term-refused, term-rest, formula-sign, formula-term, formula-rest, sum_head, sum-lower, sum-upper, sum_body, named-unknown, named-plain, named-datum, named_other, primary-wrong, primary-sum, primary-nested, primary-name, primary-literal, primary-other}
use Rattle.formulas.proofs.Loops.{factors-start, factors-none, factors-wrong, factors-end, factors-refused, factors-on, summands-start, summands-none, summands-wrong, summands-end, summands-refused, summands-on, subscripts-none, subscripts-open, entries-start, entries-refused, entries-on, entries-last}
use Rattle.formulas.proofs.+formulas.Goals as goal

pub factors-loop-init : goal.factors-loop-init
factors-loop-init t c = search factors-start

pub factors-returns-in_err-token : goal.factors-returns-in_err-token
factors-returns-in_err-token t c = let p = err_from_is_err_and c.from_residual.result c.from_residual.ensures.1 in rw (p.1, p.2) (search (factors-wrong, c.in_err-token.was) depth 8)

pub factors-returns-then-token : goal.factors-returns-then-token
factors-returns-then-token t c = search (factors-end, c.in_ok-token.was) depth 10

pub factors-returns-in_err-a : goal.factors-returns-in_err-a
factors-returns-in_err-a t c = let p = err_from_is_err_and c.from_residual-in_err-a.result c.from_residual-in_err-a.ensures.1 in rw (p.1, p.2, ← c.in_err-a.was) (search (factors-refused, c.in_ok-token.was, c.in_err-a.was) depth 12)

pub factors-loop-preserved : goal.factors-loop-preserved
factors-loop-preserved t c = search (factors-on, c.in_ok-token.was, c.in_ok-a.was) depth 12

pub factors-returns : goal.factors-returns
factors-returns t c = search factors-none depth 6

pub formula-returns-in_err-lead : goal.formula-returns-in_err-lead
formula-returns-in_err-lead t c = let p = err_from_is_err_and c.from_residual.result c.from_residual.ensures.1 in rw (p.1, p.2, ← c.in_err-lead.was) (search (formula-sign, c.in_err-lead.was) depth 6)

pub formula-returns-in_err-first : goal.formula-returns-in_err-first
formula-returns-in_err-first t c = let p = err_from_is_err_and c.from_residual-in_err-first.result c.from_residual-in_err-first.ensures.1 in rw (p.1, p.2, ← c.in_err-first.was) (search (formula-term, c.in_ok-lead.was, c.in_err-first.was) depth 8)

pub formula-returns : goal.formula-returns
formula-returns t c = search (formula-rest, c.in_ok-lead.was, c.in_ok-first.was) depth 9

pub inside-returns-then-nest-eq0 : goal.inside-returns-then-nest-eq0
inside-returns-then-nest-eq0 t c = search inside-full

pub inside-returns : goal.inside-returns
inside-returns t c = search inside-formula depth 6

pub named-returns-in_default : goal.named-returns-in_default
named-returns-in_default t c = search named-unknown depth 8

pub named-returns-then-name : goal.named-returns-then-name
named-returns-then-name t c = search named-plain depth 8

pub named-returns-then-name-2 : goal.named-returns-then-name-2
named-returns-then-name-2 t c = search named-datum depth 9

pub named-returns : goal.named-returns
named-returns t c = search named_other depth 9

pub nested-returns-then-nest-eq0 : goal.nested-returns-then-nest-eq0
nested-returns-then-nest-eq0 t c = search nested-full

pub nested-returns : goal.nested-returns
nested-returns t c = search nested-part depth 6

pub part-returns-in_err-next : goal.part-returns-in_err-next
part-returns-in_err-next t c = let p = err_from_is_err_and c.from_residual.result c.from_residual.ensures.1 in rw (p.1, p.2, ← c.in_err-next.was) (search (part-refused, c.in_err-next.was) depth 6)

pub part-returns : goal.part-returns
part-returns t c = search (part-sign, c.in_ok-next.was) depth 7

pub primary-returns-in_err-token : goal.primary-returns-in_err-token
primary-returns-in_err-token t c = let p = err_from_is_err_and c.from_residual.result c.from_residual.ensures.1 in rw (p.1, p.2) (search (primary-wrong, c.in_err-token.was) depth 6)

pub primary-returns-then-token : goal.primary-returns-then-token
primary-returns-then-token t c = search (primary-sum, c.in_ok-token.was) depth 8

pub primary-returns-then-token-2 : goal.primary-returns-then-token-2
primary-returns-then-token-2 t c = search (primary-nested, c.in_ok-token.was) depth 8

pub primary-returns-then-token-3 : goal.primary-returns-then-token-3
primary-returns-then-token-3 t c = search (primary-name, c.in_ok-token.was) depth 9

pub primary-returns-then-token-4 : goal.primary-returns-then-token-4
primary-returns-then-token-4 t c = search (primary-literal, c.in_ok-token.was) depth 8

pub primary-returns : goal.primary-returns
primary-returns t c = search (primary-other, c.in_ok-token.was) depth 11

pub subscripts-returns-then-count-eq0 : goal.subscripts-returns-then-count-eq0
subscripts-returns-then-count-eq0 t c = search subscripts-none

pub subscripts-returns-in_err-a : goal.subscripts-returns-in_err-a
subscripts-returns-in_err-a t c = let p = err_from_is_err_and c.from_residual.result c.from_residual.ensures.1 in rw (p.1, p.2, ← c.in_err-a.was) (search (subscripts-open, c.in_err-a.was) depth 7)

pub subscripts-loop-init : goal.subscripts-loop-init
subscripts-loop-init t c = search (entries-start, c.in_ok-a.was) depth 8

pub subscripts-returns-in_err-a-2 : goal.subscripts-returns-in_err-a-2
subscripts-returns-in_err-a-2 t c = let p = err_from_is_err_and c.from_residual-in_err-a-2.result c.from_residual-in_err-a-2.ensures.1 in rw (p.1, p.2, ← c.in_err-a-2.was) (search (entries-refused, c.in_err-a-2.was) depth 8)

pub subscripts-loop-preserved : goal.subscripts-loop-preserved
subscripts-loop-preserved t c = search (entries-on, c.in_ok-a-2.was) depth 8

pub subscripts-returns : goal.subscripts-returns
subscripts-returns t c = search entries-last depth 7

pub sum-returns-in_err-head : goal.sum-returns-in_err-head
sum-returns-in_err-head t c = let p = err_from_is_err_and c.from_residual.result c.from_residual.ensures.1 in rw (p.1, p.2, ← c.in_err-head.was) (search (sum_head, c.in_err-head.was) depth 6)

pub sum-returns-in_err-lower : goal.sum-returns-in_err-lower
sum-returns-in_err-lower t c = let p = err_from_is_err_and c.from_residual-in_err-lower.result c.from_residual-in_err-lower.ensures.1 in rw (p.1, p.2, ← c.in_err-lower.was) (search (sum-lower, c.in_ok-head.was, c.in_err-lower.was) depth 8)

pub sum-returns-in_err-upper : goal.sum-returns-in_err-upper
sum-returns-in_err-upper t c = let p = err_from_is_err_and c.from_residual-in_err-upper.result c.from_residual-in_err-upper.ensures.1 in rw (p.1, p.2, ← c.in_err-upper.was) (search (sum-upper, c.in_ok-head.was, c.in_ok-lower.was, c.in_err-upper.was) depth 10)

pub sum-returns : goal.sum-returns
sum-returns t c = search (sum_body, c.in_ok-head.was, c.in_ok-lower.was, c.in_ok-upper.was) depth 11

pub summands-loop-init : goal.summands-loop-init
summands-loop-init t c = search summands-start

pub summands-returns-in_err-token : goal.summands-returns-in_err-token
summands-returns-in_err-token t c = let p = err_from_is_err_and c.from_residual.result c.from_residual.ensures.1 in rw (p.1, p.2) (search (summands-wrong, c.in_err-token.was) depth 8)

pub summands-returns-then-not-joined : goal.summands-returns-then-not-joined
summands-returns-then-not-joined t c = search (summands-end, c.in_ok-token.was) depth 10

pub summands-returns-in_err-a : goal.summands-returns-in_err-a
summands-returns-in_err-a t c = let p = err_from_is_err_and c.from_residual-in_err-a.result c.from_residual-in_err-a.ensures.1 in rw (p.1, p.2, ← c.in_err-a.was) (search (summands-refused, c.in_ok-token.was, c.in_err-a.was) depth 12)

pub summands-loop-preserved : goal.summands-loop-preserved
summands-loop-preserved t c = search (summands-on, c.in_ok-token.was, c.in_ok-a.was) depth 12

pub summands-returns : goal.summands-returns
summands-returns t c = search summands-none depth 6

pub term-returns-in_err-first : goal.term-returns-in_err-first
term-returns-in_err-first t c = let p = err_from_is_err_and c.from_residual.result c.from_residual.ensures.1 in rw (p.1, p.2, ← c.in_err-first.was) (search (term-refused, c.in_err-first.was) depth 6)

pub term-returns : goal.term-returns
term-returns t c = search (term-rest, c.in_ok-first.was) depth 7
