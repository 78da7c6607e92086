-- `few::Few::with` meets its contract.
use Rattle.data.proofs.reading.Lists.{with-room, with-more}
use Rattle.data.proofs.reading.few.Few.with.Goals as goal

pub returns-then-n-ge4 : goal.returns-then-n-ge4
returns-then-n-ge4 c = search with-more

pub returns : goal.returns
returns c = search with-room
