-- `importer::equal_rows` meets its contract.
use Rattle.importer.proofs.Rows.{Counting}
use Rattle.importer.proofs.equal_rows.Given as goal

abbrev pub invariant-loop-k : goal.invariant-loop-k
invariant-loop-k l = Counting l.text l.at l.from l.limit l.k l.next
