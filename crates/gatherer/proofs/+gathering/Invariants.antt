-- The cycle of terms, forms and sigmas: each function meets its contract. The number of tokens behind the position
-- falls from a sigma to the sigma in its body.
use Prim.Native.Nat.{◌+◌, ◌*◌, ◌-◌}
use mathlib.Core.Bool.{cond}
use lib.ListN.{length}
use Rattle.gatherer.proofs.Loops.{RunsOn, TermsOn}
use Rattle.evaluator.specs.Context.{Over}
use Rattle.gatherer.proofs.+gathering.Given as goal

abbrev pub decreases-body : goal.decreases-body
decreases-body l = 10 * (length l.cx.now.stored.tokens.now - l.at) + 4

abbrev pub decreases-form : goal.decreases-form
decreases-form l = cond l.sigmas (10 * length l.cx.now.stored.tokens.now + 10) 0 + 3

abbrev pub decreases-runs : goal.decreases-runs
decreases-runs l = 10 * (length l.cx.now.stored.tokens.now - l.at) + 5

abbrev pub decreases-sigma : goal.decreases-sigma
decreases-sigma l = 10 * (length l.cx.now.stored.tokens.now - l.at) + 6

abbrev pub decreases-term : goal.decreases-term
decreases-term l = cond l.sigmas (10 * length l.cx.now.stored.tokens.now + 10) 0 + 1

abbrev pub decreases-terms : goal.decreases-terms
decreases-terms l = cond l.sigmas (10 * length l.cx.now.stored.tokens.now + 10) 0 + 2

abbrev pub invariant-runs-loop-j : goal.invariant-runs-loop-j
invariant-runs-loop-j l = Over (RunsOn l.cx.nest l.i) l.cx.stored l.variables l.total l.cx.level l.cx.scope l.at l.c l.minus l.l l.n l.initial.row l.j l.row

abbrev pub invariant-terms-loop : goal.invariant-terms-loop
invariant-terms-loop l = Over (TermsOn l.cx.nest l.sigmas) l.cx.stored l.variables l.total l.cx.level l.cx.scope l.at l.c l.minus l.initial.row l.counter l.a l.row
