-- `gathered` meets its contract.
use Rattle.gatherer.proofs.Forms.{gathered-form}
use Rattle.gatherer.proofs.gathered.Goals as goal

pub returns : goal.returns
returns c = search gathered-form depth 5
