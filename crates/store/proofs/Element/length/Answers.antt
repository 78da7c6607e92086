-- `Element::length` meets its contract.
use Rattle.store.specs.Element.{list_of}
use Rattle.store.proofs.Element.length.Goals as goal

pub returns : goal.returns
unfolding list_of
returns c = c.length.ensures
