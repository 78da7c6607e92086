-- `model::scan` meets its contract.
use Rattle.model.proofs.Laws.{scan-holds}
use Rattle.model.proofs.scan.Goals as goal

pub returns : goal.returns
returns c = search scan-holds depth 5
