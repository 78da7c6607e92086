-- `is_bare` meets its contract.
use Rattle.constraints.proofs.SideLaws.{bare-alone, bare-refused, bare-other, bare-wrong}
use Rattle.constraints.proofs.shape.is_bare.Goals as goal

pub returns-in_default : goal.returns-in_default
returns-in_default c = search bare-wrong depth 6

pub returns-in_default-name : goal.returns-in_default-name
returns-in_default-name c = search bare-other depth 8

pub returns-in_default-end : goal.returns-in_default-end
returns-in_default-end c = search bare-refused depth 10

pub returns : goal.returns
returns c = search bare-alone depth 11
