-- `generator::list` meets its contract.
use mathlib.Core.Path.{ap}
use lib.ListN.{replicate}
use Rattle.generator.proofs.list.Goals as goal

pub returns : goal.returns
returns g c = λ f d. (c.list_in.ensures f d).prints (ap (replicate 512) c.unstated-bounds.ensures)
