-- `here::Here::at` meets its contract.
use mathlib.Core.Path.{◌∙◌, ap}
use lib.ListN.{get_or}
use Rattle.store.specs.Few.{items_of}
use Rattle.elements.specs.Held.{held}
use Rattle.elements.proofs.here.Here.at.Goals as goal

pub returns : goal.returns
unfolding held
returns c = c.at.ensures ∙ ap (get_or (items_of c.args.self.levels) c.args.i) c.none.ensures
