-- `carrying::head_of` meets its contract.
use Rattle.data.proofs.Portions.{head-none, head-some}
use Rattle.data.proofs.carrying.head_of.Goals as goal

pub returns-then-count-eq0 : goal.returns-then-count-eq0
returns-then-count-eq0 c = search head-none depth 6

pub returns : goal.returns
returns c = search head-some depth 5
