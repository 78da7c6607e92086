-- `entries::Entries::marks` meets its contract.
use Rattle.data.specs.Reading.Entries.{entries_of}
use Rattle.data.proofs.reading.Marks.{Marking}
use Rattle.data.proofs.reading.entries.Entries.marks.Given as goal

abbrev pub invariant-loop-k : goal.invariant-loop-k
invariant-loop-k l = Marking (entries_of l.self) l.k l.marks
