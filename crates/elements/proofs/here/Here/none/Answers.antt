-- `here::Here::none` meets its contract.
use Rattle.elements.specs.Held.{held}
use Rattle.elements.proofs.here.Here.none.Goals as goal

pub returns : goal.returns
unfolding held
returns c = c.none-2.ensures
