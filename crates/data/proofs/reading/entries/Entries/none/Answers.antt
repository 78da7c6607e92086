-- `entries::Entries::none` meets its contract.
use Rattle.data.proofs.reading.Marks.{none-held}
use Rattle.data.proofs.reading.entries.Entries.none.Goals as goal

pub returns : goal.returns
returns c = none-held _ c.none.ensures
