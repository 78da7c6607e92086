-- `entries::Entries::at` meets its contract.
use Rattle.data.proofs.reading.Marks.{entry-is}
use Rattle.data.proofs.reading.entries.Entries.at.Goals as goal

pub returns : goal.returns
returns c = entry-is c.args.self c.args.i _ c.at.ensures
