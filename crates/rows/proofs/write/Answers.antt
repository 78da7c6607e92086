-- `rows::write` meets its contract.
use Rattle.rows.proofs.Slotting.{wrote}
use Rattle.rows.proofs.write.Goals as goal

pub returns : goal.returns
returns c = search wrote depth 11
