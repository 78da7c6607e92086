-- `reach::column` meets its contract.
use Rattle.value.proofs.Integers.{back}
use Rattle.reach.proofs.Reaching.{column-zero, column-added}
use Rattle.reach.proofs.column.Goals as goal

pub returns-then-is_zero : goal.returns-then-is_zero
returns-then-is_zero c =
    let v = c in
    let h = rw (back v.ranges.z.sfits) at v.value_of-c.ensures in
    column-zero _ _ _ _ _ _ _ h c.is_zero.ensures c.if-is_zero.true

pub returns : goal.returns
returns c =
    let d = c in
    let v = d in
    let h = rw (back v.ranges.z.sfits) at v.value_of-c.ensures in
    column-added _ _ _ _ _ _ _ _ _ h d.is_zero.ensures d.if-is_zero.false c.taken.ensures c.added.ensures
