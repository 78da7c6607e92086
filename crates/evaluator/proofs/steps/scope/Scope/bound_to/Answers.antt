-- `Scope::bound_to` meets its contract.
use Rattle.evaluator.proofs.steps.Scopes.{bound-fourth, bound-third, bound-second, bound-first, bound-nothing}
use Rattle.evaluator.proofs.steps.scope.Scope.bound_to.Goals as goal

pub returns-then-n-i : goal.returns-then-n-i
returns-then-n-i c = search bound-fourth depth 5

pub returns-then-n-i-2 : goal.returns-then-n-i-2
returns-then-n-i-2 c = search bound-third depth 6

pub returns-then-n-i-3 : goal.returns-then-n-i-3
returns-then-n-i-3 c = search bound-second depth 7

pub returns-then-n-i-4 : goal.returns-then-n-i-4
returns-then-n-i-4 c = search bound-first depth 8

pub returns : goal.returns
returns c = search bound-nothing depth 7
