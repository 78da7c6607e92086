-- `elements::inside` and `elements::turns` meet their contracts.
use Prim.Native.Nat.{◌+◌, ◌*◌}
use Rattle.elements.proofs.Entering.{TurnsOn}
use Rattle.evaluator.specs.Context.{Over}
use Rattle.elements.proofs.+inside_turns.Given as goal

abbrev pub decreases-inside : goal.decreases-inside
decreases-inside l = 2 * l.count

abbrev pub decreases-turns : goal.decreases-turns
decreases-turns l = 2 * l.count + 1

abbrev pub invariant-turns-loop-number : goal.invariant-turns-loop-number
invariant-turns-loop-number l = Over TurnsOn l.cx.stored l.cx.level l.count l.outer l.run l.number
