-- `few::Few::length` meets its contract.
use Rattle.data.proofs.reading.Lists.{length-count}
use Rattle.data.proofs.reading.few.Few.length.Goals as goal

pub returns : goal.returns
returns c = search length-count depth 6
