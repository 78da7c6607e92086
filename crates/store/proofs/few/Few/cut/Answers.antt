-- `few::Few::cut` meets its contract.
use Rattle.store.proofs.Fews.{cut-is}
use Rattle.store.proofs.few.Few.cut.Goals as goal

pub returns : goal.returns
returns g c = search cut-is depth 6
