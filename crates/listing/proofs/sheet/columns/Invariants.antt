-- `sheet::columns` meets its contract.
use Prim.Native.Nat.{◌+◌, ◌-◌, ◌*◌, ◌≤◌}
use Rattle.listing.specs.Shown.{shown_lines}
use Rattle.listing.proofs.Writing.{Left}
use Rattle.listing.specs.Sheet.Columns.{columns_from}
use Rattle.listing.proofs.sheet.columns.Given as goal

abbrev pub invariant-loop-j : goal.invariant-loop-j
invariant-loop-j l =
    (l.next ≤ l.at + 65664 * l.j) × Left l.initial.out l.at (shown_lines (columns_from l.matrix l.less l.rows l.variables 0)) l.out l.next (shown_lines (columns_from l.matrix l.less l.rows (l.variables - l.j) l.j))
