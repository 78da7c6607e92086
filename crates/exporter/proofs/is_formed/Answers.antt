-- `exporter::is_formed` meets its contract.
use Rattle.exporter.proofs.Writing.{formed-test}
use Rattle.exporter.proofs.is_formed.Goals as goal

pub returns : goal.returns
returns c = search formed-test depth 6
