-- `store::rank` meets its contract.
use mathlib.Core.Path.{◌≡◌}
use Prim.Native.Nat.{◌-◌, ◌≤◌}
use Rattle.store.specs.Key.{key_number}
use Rattle.store.specs.Table.{rank_in, rank_of}
use Rattle.store.proofs.rank.Given as goal

abbrev pub invariant-loop-from : goal.invariant-loop-from
invariant-loop-from l = (l.from ≤ l.to) × (l.to ≤ l.n) × (rank_in l.table (key_number l.key) (l.to - l.from) l.from l.to ≡ rank_of l.table l.n (key_number l.key))

abbrev pub decreases-loop-from : goal.decreases-loop-from
decreases-loop-from l = l.to - l.from
