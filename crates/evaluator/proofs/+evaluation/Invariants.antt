-- The cycle of evaluation: each function meets its contract. The level falls at a declared name, the nesting at a bracket.
use Prim.Native.Nat.{◌+◌, ◌*◌, ◌-◌}
use Rattle.evaluator.specs.Cycle.{factors_in, summands_in}
use Rattle.evaluator.proofs.Loops.{LoopOn}
use Rattle.evaluator.proofs.Turns.{TurnsOn}
use Rattle.evaluator.proofs.Lists.{NumbersOn, WithinOn}
use Rattle.evaluator.specs.Context.{Over, Under}
use Rattle.evaluator.proofs.+evaluation.Given as goal

abbrev pub decreases-body : goal.decreases-body
decreases-body l = 300 * l.cx.now.level + 20 * l.cx.now.nest + 1

abbrev pub decreases-both_limits : goal.decreases-both_limits
decreases-both_limits l = 300 * l.cx.now.level + 20 * l.cx.now.nest + 3

abbrev pub decreases-bounds : goal.decreases-bounds
decreases-bounds l = 300 * l.cx.now.level + 20 * l.cx.now.nest + 3

abbrev pub decreases-datum : goal.decreases-datum
decreases-datum l = 300 * l.cx.now.level + 20 * l.cx.now.nest + 4

abbrev pub decreases-entry : goal.decreases-entry
decreases-entry l = 300 * l.cx.now.level + 20 * l.cx.now.nest + 4

abbrev pub decreases-factors : goal.decreases-factors
decreases-factors l = 300 * l.cx.now.level + 20 * l.cx.now.nest + 7

abbrev pub decreases-formula : goal.decreases-formula
decreases-formula l = 300 * l.cx.now.level + 20 * l.cx.now.nest + 10

abbrev pub decreases-inside : goal.decreases-inside
decreases-inside l = 300 * l.cx.now.level + 20 * l.cx.now.nest + 0

abbrev pub decreases-named : goal.decreases-named
decreases-named l = 300 * l.cx.now.level + 20 * l.cx.now.nest + 5

abbrev pub decreases-part : goal.decreases-part
decreases-part l = 300 * l.cx.now.level + 20 * l.cx.now.nest + 1

abbrev pub decreases-primary : goal.decreases-primary
decreases-primary l = 300 * l.cx.now.level + 20 * l.cx.now.nest + 6

abbrev pub decreases-subscript : goal.decreases-subscript
decreases-subscript l = 300 * l.cx.now.level + 20 * l.cx.now.nest + 2

abbrev pub decreases-subscripts : goal.decreases-subscripts
decreases-subscripts l = 300 * l.cx.now.level + 20 * l.cx.now.nest + 3

abbrev pub decreases-sum : goal.decreases-sum
decreases-sum l = 300 * l.cx.now.level + 20 * l.cx.now.nest + 4

abbrev pub decreases-summands : goal.decreases-summands
decreases-summands l = 300 * l.cx.now.level + 20 * l.cx.now.nest + 9

abbrev pub decreases-term : goal.decreases-term
decreases-term l = 300 * l.cx.now.level + 20 * l.cx.now.nest + 8

abbrev pub decreases-within : goal.decreases-within
decreases-within l = 300 * l.level + 250

abbrev pub invariant-body-loop-j : goal.invariant-body-loop-j
invariant-body-loop-j l = Under (TurnsOn l.cx.nest l.i l.p) l.cx l.at l.l l.n l.v l.j

abbrev pub invariant-factors-loop : goal.invariant-factors-loop
invariant-factors-loop l = Under (LoopOn (factors_in l.cx.nest)) l.cx l.at l.initial.u (4096 - l.counter) l.a l.u

abbrev pub invariant-subscripts-loop : goal.invariant-subscripts-loop
invariant-subscripts-loop l = Under (NumbersOn l.cx.nest l.p l.count) l.cx l.at l.e l.a (l.count - l.counter)

abbrev pub invariant-summands-loop : goal.invariant-summands-loop
invariant-summands-loop l = Under (LoopOn (summands_in l.cx.nest)) l.cx l.at l.initial.u (4096 - l.counter) l.a l.u

abbrev pub invariant-within-loop-j : goal.invariant-within-loop-j
invariant-within-loop-j l = Over WithinOn l.stored l.level l.at l.e l.p l.scope l.a l.j
