-- `parts::place_at` meets its contract.
use Rattle.matrix.proofs.parts.Laws.{place_is, place-wrong}
use Rattle.matrix.proofs.parts.place_at.Goals as goal

pub returns-in-Ok : goal.returns-in-Ok
returns-in-Ok c = search place_is depth 5

pub returns-in-Err : goal.returns-in-Err
returns-in-Err c = search place-wrong depth 5
