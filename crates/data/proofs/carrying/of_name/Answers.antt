-- `carrying::of_name` meets its contract.
use Rattle.data.proofs.Portions.{name-other, name-carries}
use Rattle.data.proofs.carrying.of_name.Goals as goal

pub returns-then-whole-name : goal.returns-then-whole-name
returns-then-whole-name c = search name-carries depth 6

pub returns : goal.returns
returns c = search name-other depth 5
