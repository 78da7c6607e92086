-- The cycle of terms, forms and sigmas: each function meets its contract.
use Prim.Native.Nat.{◌+◌, ◌*◌}
use Rattle.linear.proofs.Laws.{TermOn, TermsOn}
use Rattle.tokens.specs.Text.{In}
use Rattle.linear.proofs.+linear.Given as goal

abbrev pub decreases-body : goal.decreases-body
decreases-body l = 5 * l.nest + 4

abbrev pub decreases-form : goal.decreases-form
decreases-form l = 5 * l.nest + 3

abbrev pub decreases-sigma : goal.decreases-sigma
decreases-sigma l = 5 * l.nest + 0

abbrev pub decreases-term : goal.decreases-term
decreases-term l = 5 * l.nest + 1

abbrev pub decreases-terms : goal.decreases-terms
decreases-terms l = 5 * l.nest + 2

abbrev pub invariant-term-loop : goal.invariant-term-loop
invariant-term-loop l = In (TermOn l.sigmas) l.text l.nest l.at l.counter l.a

abbrev pub invariant-terms-loop : goal.invariant-terms-loop
invariant-terms-loop l = In (TermsOn l.sigmas) l.text l.nest l.at l.counter l.a
