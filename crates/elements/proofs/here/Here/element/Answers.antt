-- `here::Here::element` meets its contract.
use Rattle.elements.proofs.Held.{element-is}
use Rattle.elements.proofs.here.Here.element.Goals as goal

pub returns : goal.returns
returns c = search element-is depth 8
