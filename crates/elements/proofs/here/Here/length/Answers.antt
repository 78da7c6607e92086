-- `here::Here::length` meets its contract.
use Rattle.elements.specs.Held.{held}
use Rattle.elements.proofs.here.Here.length.Goals as goal

pub returns : goal.returns
unfolding held
returns c = c.length.ensures
