-- `spans::is_idle` meets its contract.
use Rattle.spans.proofs.Telling.{idle-none, idle-at}
use Rattle.spans.proofs.is_idle.Goals as goal

pub returns-in-None : goal.returns-in-None
returns-in-None c = search idle-none depth 6

pub returns-in-Some : goal.returns-in-Some
returns-in-Some c = search idle-at depth 8
