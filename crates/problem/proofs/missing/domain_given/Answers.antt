-- `missing::domain_given` meets its contract: the elements from the one to come on are still to be asked.
use Rattle.std.proofs.lemmas.Result.{err_from_is_err_and}
use Rattle.elements.proofs.Walking.{reads-start, reads-on, comes-first, comes-next, gave-none, gave-err, gave-some}
use Rattle.problem.proofs.missing.Elements.{asking-from, asking-next, asked-all, asked-stopped, asked-missing}
use Rattle.problem.proofs.missing.domain_given.Goals as goal

pub loop-here-init : goal.loop-here-init
loop-here-init c =
    let e = c.into_iter-here-iterator.ensures.into_iter_gives in
    let n = c.new-here-items.ensures in
    let i = comes-first _ _ _ _ _ _ _ _ _ e n.fresh n.first in
    (λ x k. let f = i x k in search (asking-from, f) depth 7, reads-start _ _ _ e n.same)

pub returns-in_err-h : goal.returns-in_err-h
returns-in_err-h c =
    let p = err_from_is_err_and c.from_residual.result c.from_residual.ensures.1 in
    let g = c.next.ensures.steps in
    rw (p.1, p.2) (asked-stopped _ _ _ _ _ _ (c.loop-here.invariant.0 _ g.comes) _ (gave-err _ _ _ g _ c.in-Some.is _ c.in_err-h.was))

pub returns-then-not-is_given : goal.returns-then-not-is_given
returns-then-not-is_given c =
    let g = c.next.ensures.steps in
    let at = gave-some _ _ _ g _ c.in-Some.is _ c.in_ok-h.was in
    let a = c.loop-here.invariant.0 _ g.comes in
    search (asked-missing, a, at) depth 9

pub loop-here-preserved : goal.loop-here-preserved
loop-here-preserved c =
    let g = c.next.ensures.steps in
    let at = gave-some _ _ _ g _ c.in-Some.is _ c.in_ok-h.was in
    let a = c.loop-here.invariant.0 _ g.comes in
    let on = comes-next _ _ _ g _ c.in-Some.is _ c.in_ok-h.was _ _ c.loop-here.invariant.1 in
    (λ x k. let z = on x k in search (asking-next, a, at, z) depth 11, reads-on _ _ _ g _ _ c.loop-here.invariant.1)

pub returns : goal.returns
returns c =
    let g = c.next.ensures.steps in
    asked-all _ _ _ _ _ _ (c.loop-here.invariant.0 _ g.comes) (gave-none _ _ _ g c.in-None.is)
