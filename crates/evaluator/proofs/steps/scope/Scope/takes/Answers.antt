-- `Scope::takes` meets its contract.
use Rattle.evaluator.proofs.steps.Scopes.{takes-not, takes-room}
use Rattle.evaluator.proofs.steps.scope.Scope.takes.Goals as goal

pub returns-in-Some : goal.returns-in-Some
returns-in-Some c = search takes-not depth 6

pub returns-in-None : goal.returns-in-None
returns-in-None c = search takes-room depth 6
