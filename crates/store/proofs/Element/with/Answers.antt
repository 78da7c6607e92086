-- `Element::with` meets its contract.
use mathlib.Core.Path.{◌∙◌, ap}
use Rattle.value.proofs.Integers.{back}
use Rattle.store.specs.Few.{items_of, one_more}
use Rattle.store.specs.Element.{list_of, extended}
use Rattle.store.proofs.Element.with.Goals as goal

pub returns : goal.returns
unfolding list_of extended
returns c = c.with.ensures ∙ ap (one_more (items_of c.args.self.numbers)) (back {z = c.args.k} c.ranges.k.sfits)
