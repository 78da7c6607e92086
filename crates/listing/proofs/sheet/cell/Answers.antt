-- `sheet::cell` meets its contract.
use mathlib.Core.Path.{sym, ◌∙◌, ap}
use native.Mathlib.Omega.{arith}
use mir.Syntax.{w64}
use mir.Val.{to_z}
use Rattle.value.proofs.Integers.{back}
use Rattle.listing.proofs.sheet.Cells.{cell-none, cell-zero, cell-line}
use Rattle.listing.proofs.sheet.cell.Goals as goal

pub returns-then-z-eq0 : goal.returns-then-z-eq0
returns-then-z-eq0 c =
    (cell-none _ _ _ _ _ (sym (back c.ranges.z.sfits) ∙ ap (to_z w64) c.if-z-eq0.true), omega arith)

pub returns-then-is_zero : goal.returns-then-is_zero
returns-then-is_zero c =
    let h = rw (back c.ranges.z.sfits) at c.value_of-v.ensures in
    (cell-zero _ _ _ _ _ _ _ h c.is_zero.ensures c.if-is_zero.true, omega arith)

pub returns : goal.returns
returns c =
    let h = rw (back c.ranges.z.sfits) at c.value_of-v.ensures in
    (cell-line _ _ _ _ _ _ _ _ _ h c.is_zero.ensures c.if-is_zero.false c.column_line.ensures.0, omega arith)
