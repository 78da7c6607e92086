-- `here::Here::with` meets its contract.
use Rattle.elements.specs.Held.{held}
use Rattle.elements.proofs.here.Here.with.Goals as goal

pub returns : goal.returns
unfolding held
returns c = c.with.ensures
