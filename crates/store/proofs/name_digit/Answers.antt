-- `store::name_digit` meets its contract.
use native.Mathlib.Omega.{arith}
use Rattle.store.proofs.Keys.{name_least}
use Rattle.store.proofs.name_digit.Goals as goal

pub returns : goal.returns
returns c = (rw c.min.ensures (name_least _), omega arith)
