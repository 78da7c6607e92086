-- `store::insert` meets its contract.
use Prim.Native.Nat.{◌≤◌}
use native.Mathlib.Omega.{arith}
use Rattle.store.specs.Table.{row_set}
use Rattle.store.proofs.Inserting.{insert-present, insert-no-room, free-within, insert-done}
use Rattle.store.proofs.insert.Goals as goal

pub returns-in_default : goal.returns-in_default
returns-in_default c = insert-present _ _ _ _ _ c.locate.ensures _ c.in_default.is

pub returns-then-table-n : goal.returns-then-table-n
returns-then-table-n c = insert-no-room _ _ _ _ _ c.locate.ensures _ c.in-Err.is c.if-table-n.true

-- the place is among the rows, or behind the last
pub move_up-requires : goal.move_up-requires
move_up-requires c =
    let within : c.in-Err.at ≤ c.args.n = free-within _ _ _ 0 _ c.locate.ensures _ c.in-Err.is in
    omega (arith, within)

pub bounds-table-at : goal.bounds-table-at
bounds-table-at c =
    let within : c.in-Err.at ≤ c.args.n = free-within _ _ _ 0 _ c.locate.ensures _ c.in-Err.is in
    omega (arith, within, c.move_up.auto.table)

pub offset_bounds-table-at : goal.offset_bounds-table-at
offset_bounds-table-at c =
    let within : c.in-Err.at ≤ c.args.n = free-within _ _ _ 0 _ c.locate.ensures _ c.in-Err.is in
    omega (arith, within)

pub returns : goal.returns
unfolding row_set
returns c = insert-done _ _ _ _ _ _ _ c.locate.ensures c.in-Err.is c.if-table-n.false c.move_up.ensures
