-- `first` meets its contract.
use Rattle.elements.proofs.Entering.{first-is}
use Rattle.elements.proofs.first.Goals as goal

pub returns : goal.returns
returns c = search first-is
