-- `entries::Entries::length` meets its contract.
use Rattle.data.proofs.reading.Marks.{entries-count}
use Rattle.data.proofs.reading.entries.Entries.length.Goals as goal

pub returns : goal.returns
returns c = entries-count c.args.self _ c.length.ensures
