-- `here::Here::scope` meets its contract.
use Rattle.elements.proofs.Held.{scope-is}
use Rattle.elements.proofs.here.Here.scope.Goals as goal

pub returns : goal.returns
returns c = search scope-is depth 8
