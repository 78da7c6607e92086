-- `entries_at` meets its contract.
use Rattle.constraints.proofs.DomainLaws.{size-some, size_none, size-wrong}
use Rattle.constraints.proofs.shape.entries_at.Goals as goal

pub returns-in_default : goal.returns-in_default
returns-in_default c = search size-wrong depth 5

pub returns-then-token : goal.returns-then-token
returns-then-token c = search size_none depth 6

pub returns : goal.returns
returns c = search size-some depth 7
