-- The cycle of evaluation: each function meets its contract. The level falls at a declared name, the nesting at a bracket.
use Rattle.std.proofs.lemmas.Result.{err_from_is_err_and}
use Rattle.evaluator.proofs.Laws.{inside-full, inside-formula, part-refused, part-skip, subscript-refused, subscript-whole, limits-low, limits-high, limits-both, term-refused, term-rest, formula-sign, formula-term, formula-rest}
use Rattle.evaluator.proofs.Entries.{bounds-wrong, bounds-high, bounds-both, entry-low, entry-bounds}
use Rattle.evaluator.proofs.Sums.{sum_head, sum-limits, sum-run, sum_body}
use Rattle.evaluator.proofs.Names.{named-unknown, named-late, named-index, named-refused, named-formula, named-datum, named_other, datum-subscripts, datum-outside, datum-known}
use Rattle.evaluator.proofs.Alone.{part-single, within-tried}
use Rattle.evaluator.proofs.Primaries.{primary-wrong, primary-sum, primary-part, primary-name, primary-literal, primary-other}
use Rattle.evaluator.proofs.Loops.{factors-start, factors-none, factors-wrong, factors-end, factors-refused, factors-unfit, factors-on, summands-start, summands-none, summands-wrong, summands-end, summands-refused, summands-unfit, summands-on}
use Rattle.evaluator.proofs.Turns.{turns-start, body_end, body_refused, body-unfit, turns-on}
use Rattle.evaluator.proofs.Lists.{subscripts-point, numbers-start, numbers-end, numbers-refused, numbers_on, within-start, within_end, within-entry, within-outside, within_on}
use Rattle.evaluator.proofs.+evaluation.Goals as goal

pub body-loop-j-init : goal.body-loop-j-init
body-loop-j-init t c = search turns-start depth 5

pub body-returns-in_err-w : goal.body-returns-in_err-w
body-returns-in_err-w t c = let p = err_from_is_err_and c.from_residual.result c.from_residual.ensures.1 in rw (p.1, p.2, ← c.in_err-w.was) (search (body_refused, c.in_err-w.was) depth 9)

pub body-returns-in_err-v : goal.body-returns-in_err-v
body-returns-in_err-v t c = let p = err_from_is_err_and c.from_residual-in_err-v.result c.from_residual-in_err-v.ensures.1 in rw (p.1, p.2, ← c.in_err-v.was) (search (body-unfit, c.in_ok-w.was, c.in_err-v.was) depth 11)

pub body-loop-j-preserved : goal.body-loop-j-preserved
body-loop-j-preserved t c = search (turns-on, c.in_ok-w.was, c.in_ok-v.was, c.loop-j.invariant, c.loop-j-test.true) depth 11

pub body-returns : goal.body-returns
body-returns t c = search body_end depth 7

pub both_limits-returns-in_err-v : goal.both_limits-returns-in_err-v
both_limits-returns-in_err-v t c = let p = err_from_is_err_and c.from_residual.result c.from_residual.ensures.1 in rw (p.1, p.2) (search (limits-low, c.in_err-v.was) depth 7)

pub both_limits-returns-in_err-w : goal.both_limits-returns-in_err-w
both_limits-returns-in_err-w t c = let p = err_from_is_err_and c.from_residual-in_err-w.result c.from_residual-in_err-w.ensures.1 in rw (p.1, p.2) (search (limits-high, c.in_ok-v.was, c.in_err-w.was) depth 8)

pub both_limits-returns : goal.both_limits-returns
both_limits-returns t c = search (limits-both, c.in_ok-v.was, c.in_ok-w.was) depth 9

pub bounds-returns-in_err-token : goal.bounds-returns-in_err-token
bounds-returns-in_err-token t c = let p = err_from_is_err_and c.from_residual.result c.from_residual.ensures.1 in rw (p.1, p.2) (search (bounds-wrong, c.in_err-token.was) depth 7)

pub bounds-returns-in_err-w : goal.bounds-returns-in_err-w
bounds-returns-in_err-w t c = let p = err_from_is_err_and c.from_residual-in_err-w.result c.from_residual-in_err-w.ensures.1 in rw (p.1, p.2) (search (bounds-high, c.in_ok-token.was, c.in_err-w.was) depth 10)

pub bounds-returns : goal.bounds-returns
bounds-returns t c = search (bounds-both, c.in_ok-token.was, c.in_ok-w.was) depth 12

pub datum-returns-in_err-e : goal.datum-returns-in_err-e
datum-returns-in_err-e t c = let p = err_from_is_err_and c.from_residual.result c.from_residual.ensures.1 in rw (p.1, p.2) (search (datum-subscripts, c.in_err-e.was) depth 7)

pub datum-returns-in_err-within : goal.datum-returns-in_err-within
datum-returns-in_err-within t c = let p = err_from_is_err_and c.from_residual-in_err-within.result c.from_residual-in_err-within.ensures.1 in rw (p.1, p.2) (search (datum-outside, c.in_ok-e.was, c.in_err-within.was) depth 9)

pub datum-returns : goal.datum-returns
datum-returns t c = search (datum-known, c.in_ok-e.was, c.in_ok-within.was) depth 9

pub entry-returns-in_err-v : goal.entry-returns-in_err-v
entry-returns-in_err-v t c = let p = err_from_is_err_and c.from_residual.result c.from_residual.ensures.1 in rw (p.1, p.2) (search (entry-low, c.in_err-v.was) depth 7)

pub entry-returns : goal.entry-returns
entry-returns t c = search (entry-bounds, c.in_ok-v.was) depth 8

pub factors-loop-init : goal.factors-loop-init
factors-loop-init t c = search factors-start depth 4

pub factors-returns-in_err-token : goal.factors-returns-in_err-token
factors-returns-in_err-token t c = let p = err_from_is_err_and c.from_residual.result c.from_residual.ensures.1 in rw (p.1, p.2) (search (factors-wrong, c.in_err-token.was) depth 9)

pub factors-returns-then-token : goal.factors-returns-then-token
factors-returns-then-token t c = search (factors-end, c.in_ok-token.was) depth 10

pub factors-returns-in_err-w : goal.factors-returns-in_err-w
factors-returns-in_err-w t c = let p = err_from_is_err_and c.from_residual-in_err-w.result c.from_residual-in_err-w.ensures.1 in rw (p.1, p.2, ← c.in_err-w.was) (search (factors-refused, c.in_ok-token.was, c.in_err-w.was) depth 12)

pub factors-returns-in_err-u : goal.factors-returns-in_err-u
factors-returns-in_err-u t c = let p = err_from_is_err_and c.from_residual-in_err-u.result c.from_residual-in_err-u.ensures.1 in rw (p.1, p.2, ← c.in_err-u.was) (search (factors-unfit, c.in_ok-token.was, c.in_ok-w.was, c.in_err-u.was) depth 13)

pub factors-loop-preserved : goal.factors-loop-preserved
factors-loop-preserved t c = search (factors-on, c.in_ok-token.was, c.in_ok-w.was, c.in_ok-u.was) depth 13

pub factors-returns : goal.factors-returns
factors-returns t c = search factors-none depth 6

pub formula-returns-in_err-minus : goal.formula-returns-in_err-minus
formula-returns-in_err-minus t c = let p = err_from_is_err_and c.from_residual.result c.from_residual.ensures.1 in rw (p.1, p.2) (search (formula-sign, c.in_err-minus.was) depth 7)

pub formula-returns-in_err-v : goal.formula-returns-in_err-v
formula-returns-in_err-v t c = let p = err_from_is_err_and c.from_residual-in_err-v.result c.from_residual-in_err-v.ensures.1 in rw (p.1, p.2, ← c.in_err-v.was) (search (formula-term, c.in_ok-minus.was, c.in_err-v.was) depth 9)

pub formula-returns : goal.formula-returns
formula-returns t c = search (formula-rest, c.in_ok-minus.was, c.in_ok-v.was) depth 11

pub inside-returns-then-cx-eq0 : goal.inside-returns-then-cx-eq0
inside-returns-then-cx-eq0 t c = search inside-full depth 5

pub inside-returns : goal.inside-returns
inside-returns t c = search inside-formula depth 6

pub named-returns-in_default : goal.named-returns-in_default
named-returns-in_default t c = search named-unknown depth 6

pub named-returns-then-cx-listed : goal.named-returns-then-cx-listed
named-returns-then-cx-listed t c = search named-late depth 7

pub named-returns-then-listed : goal.named-returns-then-listed
named-returns-then-listed t c = search named-index depth 9

pub named-returns-in_err-v : goal.named-returns-in_err-v
named-returns-in_err-v t c = let p = err_from_is_err_and c.from_residual.result c.from_residual.ensures.1 in rw (p.1, p.2, ← c.in_err-v.was) (search (named-refused, c.in_err-v.was) depth 10)

pub named-returns-then-listed-2 : goal.named-returns-then-listed-2
named-returns-then-listed-2 t c = search (named-formula, c.in_ok-v.was) depth 10

pub named-returns-then-listed-3 : goal.named-returns-then-listed-3
named-returns-then-listed-3 t c = search named-datum depth 10

pub named-returns : goal.named-returns
named-returns t c = search named_other depth 10

pub part-returns-in-Some : goal.part-returns-in-Some
part-returns-in-Some t c = search part-single depth 7

pub part-returns-in_err-v : goal.part-returns-in_err-v
part-returns-in_err-v t c = let p = err_from_is_err_and c.from_residual.result c.from_residual.ensures.1 in rw (p.1, p.2, ← c.in_err-v.was) (search (part-refused, c.in_err-v.was) depth 7)

pub part-returns : goal.part-returns
part-returns t c = search (part-skip, c.in_ok-v.was) depth 8

pub primary-returns-in_err-token : goal.primary-returns-in_err-token
primary-returns-in_err-token t c = let p = err_from_is_err_and c.from_residual.result c.from_residual.ensures.1 in rw (p.1, p.2) (search (primary-wrong, c.in_err-token.was) depth 7)

pub primary-returns-then-token : goal.primary-returns-then-token
primary-returns-then-token t c = search (primary-sum, c.in_ok-token.was) depth 9

pub primary-returns-then-token-2 : goal.primary-returns-then-token-2
primary-returns-then-token-2 t c = search (primary-part, c.in_ok-token.was) depth 9

pub primary-returns-then-token-3 : goal.primary-returns-then-token-3
primary-returns-then-token-3 t c = search (primary-name, c.in_ok-token.was) depth 10

pub primary-returns-then-token-4 : goal.primary-returns-then-token-4
primary-returns-then-token-4 t c = search (primary-literal, c.in_ok-token.was) depth 9

pub primary-returns : goal.primary-returns
primary-returns t c = search (primary-other, c.in_ok-token.was) depth 11

pub subscript-returns-in_err-v : goal.subscript-returns-in_err-v
subscript-returns-in_err-v t c = let p = err_from_is_err_and c.from_residual.result c.from_residual.ensures.1 in rw (p.1, p.2, ← c.in_err-v.was) (search (subscript-refused, c.in_err-v.was) depth 7)

pub subscript-returns : goal.subscript-returns
subscript-returns t c = search (subscript-whole, c.in_ok-v.was) depth 8

pub subscripts-returns-then-count-eq0 : goal.subscripts-returns-then-count-eq0
subscripts-returns-then-count-eq0 t c = search subscripts-point depth 6

pub subscripts-loop-init : goal.subscripts-loop-init
subscripts-loop-init t c = search numbers-start depth 7

pub subscripts-returns-in_err-v : goal.subscripts-returns-in_err-v
subscripts-returns-in_err-v t c = let p = err_from_is_err_and c.from_residual.result c.from_residual.ensures.1 in rw (p.1, p.2) (search (numbers-refused, c.in_err-v.was) depth 9)

pub subscripts-loop-preserved : goal.subscripts-loop-preserved
subscripts-loop-preserved t c = search (numbers_on, c.in_ok-v.was) depth 10

pub subscripts-returns : goal.subscripts-returns
subscripts-returns t c = search numbers-end depth 6

pub sum-returns-in_err-i : goal.sum-returns-in_err-i
sum-returns-in_err-i t c = let p = err_from_is_err_and c.from_residual.result c.from_residual.ensures.1 in rw (p.1, p.2) (search (sum_head, c.in_err-i.was) depth 7)

pub sum-returns-in_err-limits : goal.sum-returns-in_err-limits
sum-returns-in_err-limits t c = let p = err_from_is_err_and c.from_residual-in_err-limits.result c.from_residual-in_err-limits.ensures.1 in rw (p.1, p.2) (search (sum-limits, c.in_ok-i.was, c.in_err-limits.was) depth 9)

pub sum-returns-in_err-n : goal.sum-returns-in_err-n
sum-returns-in_err-n t c = let p = err_from_is_err_and c.from_residual-in_err-n.result c.from_residual-in_err-n.ensures.1 in rw (p.1, p.2) (search (sum-run, c.in_ok-i.was, c.in_ok-limits.was, c.in_err-n.was) depth 11)

pub sum-returns : goal.sum-returns
sum-returns t c = search (sum_body, c.in_ok-i.was, c.in_ok-limits.was, c.in_ok-n.was) depth 11

pub summands-loop-init : goal.summands-loop-init
summands-loop-init t c = search summands-start depth 4

pub summands-returns-in_err-token : goal.summands-returns-in_err-token
summands-returns-in_err-token t c = let p = err_from_is_err_and c.from_residual.result c.from_residual.ensures.1 in rw (p.1, p.2) (search (summands-wrong, c.in_err-token.was) depth 9)

pub summands-returns-then-not-token-minus : goal.summands-returns-then-not-token-minus
summands-returns-then-not-token-minus t c = search (summands-end, c.in_ok-token.was) depth 10

pub summands-returns-in_err-w : goal.summands-returns-in_err-w
summands-returns-in_err-w t c = let p = err_from_is_err_and c.from_residual-in_err-w.result c.from_residual-in_err-w.ensures.1 in rw (p.1, p.2, ← c.in_err-w.was) (search (summands-refused, c.in_ok-token.was, c.in_err-w.was) depth 12)

pub summands-returns-in_err-u : goal.summands-returns-in_err-u
summands-returns-in_err-u t c = let p = err_from_is_err_and c.from_residual-in_err-u.result c.from_residual-in_err-u.ensures.1 in rw (p.1, p.2, ← c.in_err-u.was) (search (summands-unfit, c.in_ok-token.was, c.in_ok-w.was, c.in_err-u.was) depth 13)

pub summands-loop-preserved : goal.summands-loop-preserved
summands-loop-preserved t c = search (summands-on, c.in_ok-token.was, c.in_ok-w.was, c.in_ok-u.was) depth 13

pub summands-returns : goal.summands-returns
summands-returns t c = search summands-none depth 6

pub term-returns-in_err-v : goal.term-returns-in_err-v
term-returns-in_err-v t c = let p = err_from_is_err_and c.from_residual.result c.from_residual.ensures.1 in rw (p.1, p.2, ← c.in_err-v.was) (search (term-refused, c.in_err-v.was) depth 7)

pub term-returns : goal.term-returns
term-returns t c = search (term-rest, c.in_ok-v.was) depth 8

pub within-returns-in-Some : goal.within-returns-in-Some
within-returns-in-Some t c = search within-tried depth 8

pub within-loop-j-init : goal.within-loop-j-init
within-loop-j-init t c = search within-start depth 6

pub within-returns-in_err-bounds : goal.within-returns-in_err-bounds
within-returns-in_err-bounds t c = let p = err_from_is_err_and c.from_residual.result c.from_residual.ensures.1 in rw (p.1, p.2) (search (within-entry, c.in_err-bounds.was) depth 10)

pub within-returns-in_err-scope : goal.within-returns-in_err-scope
within-returns-in_err-scope t c = let p = err_from_is_err_and c.from_residual-in_err-scope.result c.from_residual-in_err-scope.ensures.1 in rw (p.1, p.2) (search (within-outside, c.in_ok-bounds.was, c.in_err-scope.was) depth 11)

pub within-loop-j-preserved : goal.within-loop-j-preserved
within-loop-j-preserved t c = search (within_on, c.in_ok-bounds.was, c.in_ok-scope.was, c.loop-j.invariant, c.loop-j-test.true, c.length-n.ensures) depth 11

pub within-returns : goal.within-returns
within-returns t c = search within_end depth 7
