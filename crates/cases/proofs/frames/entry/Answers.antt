-- `frames::entry` meets its contract.
use Rattle.cases.proofs.frames.Laws.{entry-export, entry_read, entry-list}
use Rattle.cases.proofs.frames.entry.Goals as goal

pub returns-then-b-eq69 : goal.returns-then-b-eq69
returns-then-b-eq69 c = search entry-export depth 5

pub returns-then-b-eq82 : goal.returns-then-b-eq82
returns-then-b-eq82 c = search entry_read depth 6

pub returns : goal.returns
returns c = search entry-list depth 6
