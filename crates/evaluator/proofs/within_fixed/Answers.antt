-- `within_fixed` meets its contract.
use Rattle.evaluator.proofs.Alone.{fixed-start, fixed-end, fixed-outside, fixed_on}
use Rattle.evaluator.proofs.within_fixed.Goals as goal

pub loop-j-init : goal.loop-j-init
loop-j-init c = search fixed-start depth 6

pub returns-then-not-lies : goal.returns-then-not-lies
returns-then-not-lies c = search (fixed-outside, c.in_ok-limits.was) depth 14

pub loop-j-preserved : goal.loop-j-preserved
loop-j-preserved c = search (fixed_on, c.in_ok-limits.was) depth 14

pub returns : goal.returns
returns c = search fixed-end depth 8
