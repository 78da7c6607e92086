-- `tokens::same_name` meets its contract.
use Rattle.tokens.proofs.Tables.{same-lengths, alike-start, alike_end, alike-not, alike-on}
use Rattle.tokens.proofs.same_name.Goals as goal

pub returns-then-n-m : goal.returns-then-n-m
returns-then-n-m c = search same-lengths

pub loop-i-init : goal.loop-i-init
loop-i-init c = search alike-start

pub returns-then-a-b : goal.returns-then-a-b
returns-then-a-b c = search alike-not depth 8

pub loop-i-preserved : goal.loop-i-preserved
loop-i-preserved c = search alike-on depth 8

pub returns : goal.returns
returns c = search alike_end depth 6
