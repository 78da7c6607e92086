-- `generator::reread` meets its contract.
use Rattle.generator.proofs.Exports.{reread-read, reread-nothing}
use Rattle.generator.proofs.reread.Goals as goal

pub returns-in_default : goal.returns-in_default
returns-in_default c = search reread-nothing depth 6

pub returns : goal.returns
returns c = search reread-read depth 6
