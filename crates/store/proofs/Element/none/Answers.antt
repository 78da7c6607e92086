-- `Element::none` meets its contract.
use Rattle.store.specs.Element.{list_of}
use Rattle.store.proofs.Element.none.Goals as goal

pub returns : goal.returns
unfolding list_of
returns c = c.none.ensures
