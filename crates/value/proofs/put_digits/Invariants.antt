-- `value::put_digits` meets its contract.
use mathlib.Core.Path.{◌≡◌}
use Prim.Native.Nat.{◌+◌, ◌≤◌}
use lib.ListN.{length}
use lib.Seq.{sets}
use Rattle.value.specs.Printed.{digits}
use Rattle.value.proofs.put_digits.Given as goal

abbrev pub invariant-loop-j : goal.invariant-loop-j
invariant-loop-j l = (l.j ≤ l.k) × (l.i + l.j ≡ l.at + l.k) × (length l.out ≡ length l.initial.out) × (sets l.out l.i (digits l.j l.n) ≡ sets l.initial.out l.at (digits l.k l.n))

abbrev pub decreases-loop-j : goal.decreases-loop-j
decreases-loop-j l = l.j
