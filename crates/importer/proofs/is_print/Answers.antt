-- `importer::is_print` meets its contract.
use Rattle.importer.proofs.Values.{print-other, print-same}
use Rattle.importer.proofs.is_print.Goals as goal

pub returns-in-Some : goal.returns-in-Some
returns-in-Some c = search print-same depth 8

pub returns-in-None : goal.returns-in-None
returns-in-None c = search print-other depth 8
