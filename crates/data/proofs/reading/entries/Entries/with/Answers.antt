-- `entries::Entries::with` meets its contract.
use Rattle.data.proofs.reading.Marks.{entry-more}
use Rattle.data.proofs.reading.entries.Entries.with.Goals as goal

pub returns : goal.returns
returns c = entry-more c.args.self c.args.e (record { entries = c.with.result }) c.with.ensures
