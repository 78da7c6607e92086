-- `Scope::none` meets its contract.
use Rattle.evaluator.proofs.steps.Scopes.{none-bound}
use Rattle.evaluator.proofs.steps.scope.Scope.none.Goals as goal

pub returns : goal.returns
returns c = none-bound (record { bound = c.none.result }) c.none.ensures
