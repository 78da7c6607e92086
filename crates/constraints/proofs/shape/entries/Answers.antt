-- `entries` meets its contract.
use Rattle.constraints.proofs.DomainLaws.{counting-first, counting-full, counting-stuck, counting-wrong, counting-end, counting_more}
use Rattle.constraints.proofs.shape.entries.Goals as goal

pub loop-n-init : goal.loop-n-init
loop-n-init c = counting-first _ _ _ _

pub returns-in_default : goal.returns-in_default
returns-in_default c = search counting-stuck depth 8

pub returns-in_default-token_at : goal.returns-in_default-token_at
returns-in_default-token_at c = search counting-wrong depth 10

pub returns-then-token : goal.returns-then-token
returns-then-token c = search counting-end depth 11

pub loop-n-preserved : goal.loop-n-preserved
loop-n-preserved c = search counting_more depth 11

pub returns : goal.returns
returns c = search counting-full depth 6
