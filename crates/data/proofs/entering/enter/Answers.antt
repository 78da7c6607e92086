-- `entering::enter` meets its contract.
use Rattle.data.proofs.Rows.{inserted-room, enter-present, enter-full, enter-done}
use native.Mathlib.Omega.{arith}
use borrow.Author.Rules.{rules}
use Rattle.data.proofs.entering.enter.Goals as goal

pub overflow_add-result : goal.overflow_add-result
overflow_add-result c = omega (arith, inserted-room _ _ _ _ _ _ c.insert.ensures c.in-Ok.is)

pub returns-in-Ok : goal.returns-in-Ok
returns-in-Ok c = search (enter-done, rules) depth 8

pub returns-in-Err-Present : goal.returns-in-Err-Present
returns-in-Err-Present c = search (enter-present, rules) depth 8

pub returns-in-Err-NoRoom : goal.returns-in-Err-NoRoom
returns-in-Err-NoRoom c = search (enter-full, rules) depth 8
