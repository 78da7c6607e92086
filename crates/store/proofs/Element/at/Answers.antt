-- `Element::at` meets its contract.
use mathlib.Core.Path.{◌∙◌}
use Rattle.value.proofs.Integers.{back}
use Rattle.store.specs.Element.{list_of}
use Rattle.store.proofs.Element.at.Goals as goal

pub returns : goal.returns
unfolding list_of
returns c = back {z = c.at.result} c.at.type_inv ∙ c.at.ensures
