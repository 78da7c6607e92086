-- `entries::Entries::position` meets its contract.
use Rattle.data.specs.Reading.Entries.{entries_of}
use Rattle.data.proofs.reading.Marks.{Placing}
use Rattle.data.proofs.reading.entries.Entries.position.Given as goal

abbrev pub invariant-loop-k : goal.invariant-loop-k
invariant-loop-k l = Placing (entries_of l.self) l.i l.k
