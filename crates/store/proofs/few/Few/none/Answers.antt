-- `few::Few::none` meets its contract.
use Rattle.store.proofs.Fews.{none-is}
use Rattle.store.proofs.few.Few.none.Goals as goal

pub returns : goal.returns
returns g c = search none-is
