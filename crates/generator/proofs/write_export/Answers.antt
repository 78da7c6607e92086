-- `generator::write_export` meets its contract.
use Rattle.generator.proofs.Exports.{written-export}
use Rattle.generator.proofs.write_export.Goals as goal

pub returns : goal.returns
returns c = search written-export depth 8
