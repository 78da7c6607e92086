-- `layouts::lay_out` meets its contract.
use Rattle.data.proofs.Laying.{laid-start, laid-stuck, laid_on, laid_end}
use Rattle.data.proofs.layouts.lay_out.Goals as goal

pub loop-init : goal.loop-init
loop-init c = search laid-start

pub returns-in_default : goal.returns-in_default
returns-in_default c = search laid-stuck depth 8

pub loop-preserved : goal.loop-preserved
loop-preserved c = search laid_on depth 10

pub returns : goal.returns
returns c = search laid_end depth 6
