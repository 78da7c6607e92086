-- `spans::put_span` meets its contract.
use native.Mathlib.Omega.{arith}
use Rattle.listing.proofs.Spanning.{span-most}
use Rattle.listing.proofs.Writing.{written_from}
use Rattle.spans.proofs.put_span.Goals as goal

pub overflow_add-result : goal.overflow_add-result
overflow_add-result c =
    let d = c in
    let a = d.args in
    omega (arith, d.span.ensures.next, span-most a.number a.least a.greatest a.idle)

pub returns : goal.returns
returns c =
    let d = c in
    let f = d in
    let a = f.args in
    (written_from _ _ _ _ _ _ f.rest_from-from.ensures d.span.ensures, omega (arith, d.span.ensures.next, span-most a.number a.least a.greatest a.idle))
