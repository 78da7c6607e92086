-- `exporter::floor_at` meets its contract.
use Rattle.exporter.proofs.Writing.{floor-here, floor-behind}
use Rattle.exporter.proofs.floor_at.Goals as goal

pub returns-then-i-t : goal.returns-then-i-t
returns-then-i-t c = search floor-here depth 8

pub returns : goal.returns
returns c = search floor-behind depth 8
