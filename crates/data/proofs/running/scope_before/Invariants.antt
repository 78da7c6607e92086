-- `running::scope_before` meets its contract.
use Rattle.data.proofs.Positions.{Scoping}
use Rattle.data.proofs.running.scope_before.Given as goal

abbrev pub invariant-loop-k : goal.invariant-loop-k
invariant-loop-k l = Scoping l.bound l.indices l.j l.k l.sc
