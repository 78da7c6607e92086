-- `missing::is_given` meets its contract.
use Rattle.problem.proofs.missing.Elements.{given-is}
use Rattle.problem.proofs.missing.is_given.Goals as goal

pub returns : goal.returns
returns c = search given-is depth 8
