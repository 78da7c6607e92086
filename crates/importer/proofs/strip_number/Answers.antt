-- `importer::strip_number` meets its contract.
use Rattle.importer.proofs.Values.{number-strips}
use Rattle.importer.proofs.strip_number.Goals as goal

pub returns : goal.returns
returns c = search number-strips depth 8
