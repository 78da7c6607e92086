-- `few::Few::all_in` meets its contract.
use Rattle.data.proofs.reading.Lists.{among-start, among-not, among-on, among-end}
use Rattle.data.proofs.reading.few.Few.all_in.Goals as goal

pub loop-k-init : goal.loop-k-init
loop-k-init c = search among-start

pub returns-then-not-has : goal.returns-then-not-has
returns-then-not-has c = search among-not depth 9

pub loop-k-preserved : goal.loop-k-preserved
loop-k-preserved c = search among-on depth 9

pub returns : goal.returns
returns c = search among-end depth 6
