-- `few::Few::length` meets its contract.
use Rattle.store.proofs.Fews.{length-count}
use Rattle.store.proofs.few.Few.length.Goals as goal

pub returns : goal.returns
returns g c = search length-count depth 6
