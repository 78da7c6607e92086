-- `value::number` meets its contract. The invariant: what is left reads on to the same number, and there is room for it.
use mathlib.Core.Path.{◌≡◌}
use Prim.Native.Nat.{◌+◌, ◌-◌, ◌*◌, ◌^◌, ◌≤◌}
use lib.ListN.{length, drop}
use Rattle.value.specs.Literal.{number_from}
use Rattle.value.proofs.number.Given as goal

abbrev pub invariant-loop-b : goal.invariant-loop-b
invariant-loop-b l = ((l.x + 1) * 10 ^ (length l.t - l.b-index) ≤ 10 ^ 18) × (number_from l.x (drop l.b-index l.t) ≡ number_from l.m l.t)
