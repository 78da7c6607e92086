-- `store::is_at` meets its contract: keys are the same where their words are.
use native.Mathlib.Omega.{arith}
use Rattle.store.specs.Table.{key_at}
use Rattle.store.proofs.Halving.{keys-same}
use Rattle.store.proofs.is_at.Goals as goal

pub returns : goal.returns
unfolding key_at
returns c = rw (c.eq.ensures, ← c.row_at.ensures) (keys-same c.row_at.result.key c.args.key (omega arith) (omega arith) (omega arith) (omega arith))
