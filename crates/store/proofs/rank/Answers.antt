-- `store::rank` meets its contract.
use native.Mathlib.Omega.{arith}
use Rattle.store.proofs.Halving.{rank-start, rank_up, rank_down, rank-end}
use Rattle.store.proofs.rank.Goals as goal

pub loop-from-init : goal.loop-from-init
loop-from-init c = (omega arith, omega arith, rank-start _ _ _)

pub loop-from-preserved-then-is_below : goal.loop-from-preserved-then-is_below
loop-from-preserved-then-is_below c =
    let o = c in
    (omega arith, omega arith, rank_up _ _ _ _ _ o.loop-from.invariant.2 (omega arith) _ c.is_below.ensures c.if-is_below.true)

pub loop-from-preserved : goal.loop-from-preserved
loop-from-preserved c =
    let o = c in
    (omega arith, omega arith, rank_down _ _ _ _ _ o.loop-from.invariant.2 (omega arith) _ c.is_below.ensures c.if-is_below.false)

pub returns : goal.returns
returns c = rank-end _ _ _ _ _ c.loop-from.invariant.2 c.loop-from-test.false
