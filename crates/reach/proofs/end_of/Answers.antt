-- `reach::end_of` meets its contract.
use Rattle.value.proofs.Integers.{back}
use Rattle.reach.proofs.Reaching.{reaching-first, reaching-more, reaches-open, reaches_end}
use Rattle.reach.proofs.end_of.Goals as goal

pub loop-j-init : goal.loop-j-init
loop-j-init c = search reaching-first depth 5

pub returns-in_err-t : goal.returns-in_err-t
returns-in_err-t c =
    let v = rw (back c.count_at.type_inv) at c.column.ensures in
    rw c.from_residual.ensures (reaches-open _ _ _ _ _ _ _ _ _ c.loop-j.invariant c.loop-j-test.true c.count_at.ensures v c.in_err-t.was)

pub loop-j-preserved : goal.loop-j-preserved
loop-j-preserved c =
    let v = rw (back c.count_at.type_inv) at c.column.ensures in
    reaching-more _ _ _ _ _ _ _ _ _ _ c.loop-j.invariant c.loop-j-test.true c.count_at.ensures v c.in_ok-t.was

pub returns : goal.returns
returns c = reaches_end _ _ _ _ _ _ _ c.loop-j.invariant c.loop-j-test.false
