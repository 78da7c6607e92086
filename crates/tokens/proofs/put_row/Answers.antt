-- `tokens::put_row` meets its contract.
use lib.ListN.{length-set}
use Rattle.tokens.proofs.Tables.{put-none, put_five}
use native.Mathlib.Omega.{arith}
use Rattle.tokens.proofs.put_row.Goals as goal

pub returns-then-rows-number : goal.returns-then-rows-number
returns-then-rows-number c = search put-none

pub bounds-rows-at-2 : goal.bounds-rows-at-2
bounds-rows-at-2 c = simp length-set (omega arith)

pub bounds-rows-at-3 : goal.bounds-rows-at-3
bounds-rows-at-3 c = simp length-set (omega arith)

pub bounds-rows-at-4 : goal.bounds-rows-at-4
bounds-rows-at-4 c = simp length-set (omega arith)

pub bounds-rows-at-5 : goal.bounds-rows-at-5
bounds-rows-at-5 c = simp length-set (omega arith)

pub returns : goal.returns
returns c = search put_five
