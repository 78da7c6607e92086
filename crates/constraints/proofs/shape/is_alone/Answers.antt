-- `is_alone` meets its contract.
use Rattle.constraints.proofs.SideLaws.{alone-by, alone-wrong}
use Rattle.constraints.proofs.shape.is_alone.Goals as goal

pub returns-in_default : goal.returns-in_default
returns-in_default c = search alone-wrong depth 6

pub returns : goal.returns
returns c = search alone-by depth 6
