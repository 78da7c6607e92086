-- `sheet::column` meets its contract.
use Prim.Native.Nat.{◌+◌, ◌-◌, ◌*◌, ◌≤◌}
use Rattle.listing.specs.Shown.{shown_lines}
use Rattle.listing.proofs.Writing.{Left}
use Rattle.listing.specs.Sheet.Columns.{column_from}
use Rattle.listing.proofs.sheet.column.Given as goal

abbrev pub invariant-loop-i : goal.invariant-loop-i
invariant-loop-i l =
    (l.next ≤ l.at + 128 * l.i) × Left l.initial.out l.at (shown_lines (column_from l.matrix l.less l.j l.rows 0)) l.out l.next (shown_lines (column_from l.matrix l.less l.j (l.rows - l.i) l.i))
