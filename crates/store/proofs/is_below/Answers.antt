-- `store::is_below` meets its contract: the first word that differs decides.
use native.Mathlib.Omega.{arith}
use Rattle.store.specs.Table.{key_at}
use Rattle.store.proofs.Halving.{keys-less}
use Rattle.store.proofs.is_below.Goals as goal

pub returns : goal.returns
unfolding key_at
returns c = rw (c.lt.ensures, ← c.row_at.ensures) (keys-less c.row_at.result.key c.args.key (omega arith) (omega arith) (omega arith) (omega arith))
