-- `here::Here::cut` meets its contract.
use Rattle.elements.specs.Held.{held}
use Rattle.elements.proofs.here.Here.cut.Goals as goal

pub returns : goal.returns
unfolding held
returns c = c.cut.ensures
