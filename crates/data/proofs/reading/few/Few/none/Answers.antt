-- `few::Few::none` meets its contract.
use Rattle.data.proofs.reading.Lists.{holds-none}
use Rattle.data.proofs.reading.few.Few.none.Goals as goal

pub returns : goal.returns
returns c = search holds-none
