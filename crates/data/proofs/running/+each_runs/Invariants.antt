-- `running::each` and `running::runs` meet their contracts: with each call one position less is left to run.
use Prim.Native.Nat.{◌+◌, ◌-◌, ◌*◌}
use Rattle.data.proofs.Carried.{EachOn}
use Rattle.data.proofs.running.+each_runs.Given as goal

abbrev pub decreases-each : goal.decreases-each
decreases-each l = 2 * (4 - l.k) + 1

abbrev pub decreases-runs : goal.decreases-runs
decreases-runs l = 2 * (5 - l.k)

abbrev pub invariant-each-loop-i : goal.invariant-each-loop-i
invariant-each-loop-i l = EachOn l.names l.tokens l.initial.table l.given l.at l.x l.k l.bound l.l l.n l.a l.count l.i l.table
