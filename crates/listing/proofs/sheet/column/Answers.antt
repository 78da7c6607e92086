-- `sheet::column` meets its contract.
use native.Mathlib.Omega.{arith}
use Rattle.value.proofs.Integers.{back}
use Rattle.listing.proofs.sheet.Coefficients.{column-start, column-more, column-end}
use Rattle.listing.proofs.sheet.column.Goals as goal

pub loop-i-init : goal.loop-i-init
loop-i-init c = (omega arith, column-start _ _ _ _ _ _)

pub loop-i-preserved : goal.loop-i-preserved
loop-i-preserved c =
    let v = rw (back c.count_at.type_inv) at c.cell-next.ensures.0 in
    (omega arith, column-more _ _ _ _ _ _ _ c.loop-i.invariant.1 c.loop-i-test.true c.slot-k.ensures c.count_at.ensures v)

pub returns : goal.returns
returns c =
    let e = rw (back c.count_at-2.type_inv) at c.value_of-v.ensures in
    (column-end _ _ _ _ _ _ _ c.loop-i.invariant.1 (omega arith) c.loop-i-test.false c.count_at-2.ensures e c.column_line.ensures.0, omega arith)
