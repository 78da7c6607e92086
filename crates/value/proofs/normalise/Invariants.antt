-- `value::normalise` meets its contract. The invariant: the scales below i do not serve.
use Prim.Native.Nat.{◌-◌}
use Rattle.value.proofs.Scales.{Sought}
use Rattle.value.proofs.normalise.Given as goal

abbrev pub invariant-loop-i : goal.invariant-loop-i
invariant-loop-i l = Sought l.x l.s l.i

abbrev pub decreases-loop-i : goal.decreases-loop-i
decreases-loop-i l = 7 - l.i
