-- `exporter::bounds_section` meets its contract.
use Rattle.exporter.proofs.Writing.{bounds-then}
use Rattle.exporter.proofs.bounds_section.Goals as goal

pub returns : goal.returns
returns c = search bounds-then depth 9
