-- `entries::marks_index` meets its contract.
use Rattle.data.proofs.reading.Marks.{marks-same}
use Rattle.data.proofs.reading.entries.marks_index.Goals as goal

pub returns-in-Marked : goal.returns-in-Marked
returns-in-Marked c = search marks-same
