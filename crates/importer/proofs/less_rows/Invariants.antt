-- `importer::less_rows` meets its contract.
use Rattle.importer.proofs.Rows.{Listing}
use Rattle.importer.proofs.less_rows.Given as goal

abbrev pub invariant-loop-k : goal.invariant-loop-k
invariant-loop-k l = Listing l.text l.at l.initial.floors l.k l.next l.floors
