-- `constraints::read_rows` meets its contract.
use Rattle.std.proofs.Common.{arith}
use Rattle.constraints.proofs.ListLaws.{constraints-start, constraints-refused, constraints-wrong, constraints-on, constraints-end, constraints-full}
use Rattle.constraints.proofs.read_rows.Goals as goal

pub loop-n-init : goal.loop-n-init
loop-n-init c = search constraints-start depth 6

pub returns-in-Err : goal.returns-in-Err
returns-in-Err c = search (constraints-refused, c.in-Err.ensures) depth 8

pub returns-in-Err-more : goal.returns-in-Err-more
returns-in-Err-more c = constraints-wrong _ _ _ _ _ _ _ _ c.loop-n.invariant (omega arith) _ _ c.in-Ok.ensures (omega arith) _ _ c.in-Err-more.ensures (omega arith) (omega arith)

pub returns-then-not-goes_on : goal.returns-then-not-goes_on
returns-then-not-goes_on c = search (constraints-end, c.in-Ok.ensures, c.in-Ok-more.ensures) depth 14

pub loop-n-preserved : goal.loop-n-preserved
loop-n-preserved c = search (constraints-on, c.in-Ok.ensures, c.in-Ok-more.ensures) depth 14

pub returns : goal.returns
returns c = search (constraints-full, c.full-refused.ensures) depth 9
