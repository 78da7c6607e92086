-- `few::Few::has` meets its contract.
use Rattle.data.proofs.reading.Lists.{seeks-start, seeks-found, seeks-on, seeks-none}
use Rattle.data.proofs.reading.few.Few.has.Goals as goal

pub loop-k-init : goal.loop-k-init
loop-k-init c = search seeks-start

pub returns-then-x-at : goal.returns-then-x-at
returns-then-x-at c = search seeks-found depth 8

pub loop-k-preserved : goal.loop-k-preserved
loop-k-preserved c = search seeks-on depth 8

pub returns : goal.returns
returns c = search seeks-none depth 6
