-- The cycle of formulas: each function meets its contract.
use Prim.Native.Nat.{◌+◌, ◌*◌}
use Rattle.formulas.proofs.Loops.{FactorsOn, SummandsOn, EntriesOn}
use Rattle.tokens.specs.Text.{In}
use Rattle.formulas.proofs.+formulas.Given as goal

abbrev pub decreases-factors : goal.decreases-factors
decreases-factors l = 10 * l.nest + 5

abbrev pub decreases-formula : goal.decreases-formula
decreases-formula l = 10 * l.nest + 8

abbrev pub decreases-inside : goal.decreases-inside
decreases-inside l = 10 * l.nest + 0

abbrev pub decreases-named : goal.decreases-named
decreases-named l = 10 * l.nest + 3

abbrev pub decreases-nested : goal.decreases-nested
decreases-nested l = 10 * l.nest + 3

abbrev pub decreases-part : goal.decreases-part
decreases-part l = 10 * l.nest + 1

abbrev pub decreases-primary : goal.decreases-primary
decreases-primary l = 10 * l.nest + 4

abbrev pub decreases-subscripts : goal.decreases-subscripts
decreases-subscripts l = 10 * l.nest + 2

abbrev pub decreases-sum : goal.decreases-sum
decreases-sum l = 10 * l.nest + 3

abbrev pub decreases-summands : goal.decreases-summands
decreases-summands l = 10 * l.nest + 7

abbrev pub decreases-term : goal.decreases-term
decreases-term l = 10 * l.nest + 6

abbrev pub invariant-factors-loop : goal.invariant-factors-loop
invariant-factors-loop l = In FactorsOn l.text l.nest l.at l.counter l.a

abbrev pub invariant-subscripts-loop : goal.invariant-subscripts-loop
invariant-subscripts-loop l = In EntriesOn l.text l.nest l.count l.at l.counter l.a

abbrev pub invariant-summands-loop : goal.invariant-summands-loop
invariant-summands-loop l = In SummandsOn l.text l.nest l.at l.counter l.a
