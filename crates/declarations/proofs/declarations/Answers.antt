-- `declarations::declarations` meets its contract.
use Rattle.declarations.proofs.ListLaws.{declared-all}
use Rattle.declarations.proofs.declarations.Goals as goal

pub returns : goal.returns
returns c = search declared-all depth 6
