-- `matrix::bounds_of` meets its contract.
use Rattle.std.proofs.lemmas.Result.{err_from_is_err_and}
use Rattle.elements.proofs.Walking.{reads-start, reads-on, comes-first, comes-next, gave-none, gave-err, gave-some}
use Rattle.matrix.proofs.Looping.{bounds-start, bounds-done, bounds-stopped, bounds-refused, bounds-more}
use Rattle.matrix.proofs.bounds_of.Goals as goal

pub loop-here-init : goal.loop-here-init
loop-here-init c =
    let e = c.into_iter-here-iterator.ensures.into_iter_gives in
    let n = c.new-here-items.ensures in
    let i = comes-first _ _ _ _ _ _ _ _ _ e n.fresh n.first in
    (search (bounds-start, i) depth 6, reads-start _ _ _ e n.same)

pub returns-in_err-h : goal.returns-in_err-h
returns-in_err-h c =
    let p = err_from_is_err_and c.from_residual.result c.from_residual.ensures.1 in
    let g = c.next.ensures.steps in
    let e = gave-err _ _ _ g _ c.in-Some.is _ c.in_err-h.was in
    rw (p.1, p.2) (search (bounds-stopped, g.comes, e) depth 7)

pub returns-in_err-bound : goal.returns-in_err-bound
returns-in_err-bound c =
    let p = err_from_is_err_and c.from_residual-in_err-bound.result c.from_residual-in_err-bound.ensures.1 in
    let g = c.next.ensures.steps in
    let at = gave-some _ _ _ g _ c.in-Some.is _ c.in_ok-h.was in
    rw (p.1, p.2) (search (bounds-refused, g.comes, at, c.in_err-bound.was) depth 9)

pub loop-here-preserved : goal.loop-here-preserved
loop-here-preserved c =
    let g = c.next.ensures.steps in
    let at = gave-some _ _ _ g _ c.in-Some.is _ c.in_ok-h.was in
    let on = comes-next _ _ _ g _ c.in-Some.is _ c.in_ok-h.was _ _ c.loop-here.invariant.1 in
    (search (bounds-more, g.comes, at, on, c.in_ok-bound.was) depth 10, reads-on _ _ _ g _ _ c.loop-here.invariant.1)

pub returns : goal.returns
returns c =
    let g = c.next.ensures.steps in
    let e = gave-none _ _ _ g c.in-None.is in
    search (bounds-done, g.comes, e) depth 7
