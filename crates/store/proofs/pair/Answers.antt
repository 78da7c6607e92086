-- `store::pair` meets its contract.
use mathlib.Core.Path.{refl}
use Rattle.store.specs.Key.{paired}
use Rattle.store.proofs.pair.Goals as goal

pub returns : goal.returns
unfolding paired
returns c = refl
