-- `exporter::cells` meets its contract.
use native.Mathlib.Omega.{arith}
use Rattle.value.proofs.Integers.{back}
use Rattle.exporter.proofs.Writing.{text-start, text-more, text-end, cell-told}
use Rattle.exporter.proofs.cells.Goals as goal

pub loop-i-init : goal.loop-i-init
loop-i-init c = (omega arith, text-start _ _ _ _)

pub loop-i-preserved : goal.loop-i-preserved
loop-i-preserved c =
    let v = rw (back c.count_at-z.type_inv) at c.cell-next.ensures.0 in
    (omega arith, text-more _ _ _ c.loop-i.invariant.1 c.loop-i-test.true (cell-told _ _ _ _ _ _ _ _ c.slot.ensures c.count_at-z.ensures c.floor_at-floor.ensures v))

pub returns : goal.returns
returns c = (text-end _ _ _ c.loop-i.invariant.1 c.loop-i-test.false, omega arith)
