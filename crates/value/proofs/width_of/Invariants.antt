-- `value::width_of` meets its contract.
use Prim.Native.Nat.{◌-◌, ◌≤◌}
use mathlib.Core.Path.{◌≡◌}
use Rattle.value.specs.Printed.{width_from}
use Rattle.value.proofs.width_of.Given as goal

abbrev pub invariant-loop-w : goal.invariant-loop-w
invariant-loop-w l = (1 ≤ l.w) × (l.w ≤ 18) × (width_from (18 - l.w) l.w l.n ≡ width_from 17 1 l.n)

abbrev pub decreases-loop-w : goal.decreases-loop-w
decreases-loop-w l = 18 - l.w
