-- `store::find_early` meets its contract: a row that has the key is the answer, wherever it was tried.
use native.Mathlib.Omega.{arith}
use Rattle.store.proofs.Halving.{finds-row, finds-early}
use Rattle.store.proofs.find_early.Goals as goal

pub returns-then-is_at : goal.returns-then-is_at
returns-then-is_at c = finds-early _ _ _ _ (omega (arith, c.min-i-end.ensures)) _ c.is_at.ensures c.if-is_at.true

pub returns : goal.returns
returns c = search finds-row depth 6
