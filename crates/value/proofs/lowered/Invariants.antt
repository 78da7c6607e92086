-- `value::lowered` meets its contract. The invariant: what is left is the same number.
use Prim.Native.Nat.{◌-◌, ◌≤◌}
use Rattle.value.proofs.Powers.{Fewer}
use Rattle.value.proofs.lowered.Given as goal

abbrev pub invariant-loop : goal.invariant-loop
invariant-loop l = Fewer l.x l.s l.y (l.s - (l.counter - 18)) × (l.counter - 18 ≤ l.s - 18)
