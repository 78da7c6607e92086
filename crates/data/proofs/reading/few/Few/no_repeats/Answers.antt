-- `few::Few::no_repeats` meets its contract.
use Rattle.data.proofs.reading.Lists.{single-start, single-not, single-on, single-end}
use Rattle.data.proofs.reading.few.Few.no_repeats.Goals as goal

pub loop-k-init : goal.loop-k-init
loop-k-init c = search single-start

pub returns-then-has : goal.returns-then-has
returns-then-has c = search single-not depth 9

pub loop-k-preserved : goal.loop-k-preserved
loop-k-preserved c = search single-on depth 9

pub returns : goal.returns
returns c = search single-end depth 6
