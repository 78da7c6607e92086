-- `reach::taken` meets its contract.
use Rattle.reach.proofs.Reaching.{takes-lower, takes-upper}
use Rattle.reach.proofs.taken.Goals as goal

pub returns-then-takes_lower : goal.returns-then-takes_lower
returns-then-takes_lower c = search takes-lower depth 6

pub returns : goal.returns
returns c = search takes-upper depth 6
