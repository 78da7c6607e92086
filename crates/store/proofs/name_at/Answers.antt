-- `store::name_at` meets its contract.
use native.Mathlib.Omega.{arith}
use Rattle.store.specs.Table.{key_at}
use Rattle.store.proofs.Back.{name-read}
use Rattle.store.proofs.name_at.Goals as goal

pub returns : goal.returns
unfolding key_at
returns c = rw (← c.row_at.ensures) (name-read c.row_at.result.key (omega arith) (omega arith))
