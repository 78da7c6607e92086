-- `entries::Entries::positions` meets its contract.
use Rattle.data.specs.Reading.Few.{numbers_of}
use Rattle.data.specs.Reading.Entries.{entries_of}
use Rattle.data.proofs.reading.Marks.{Ordering}
use Rattle.data.proofs.reading.entries.Entries.positions.Given as goal

abbrev pub invariant-loop-k : goal.invariant-loop-k
invariant-loop-k l = Ordering (entries_of l.self) (numbers_of l.order) l.k l.positions
