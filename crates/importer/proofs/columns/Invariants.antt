-- `importer::columns` meets its contract.
use Rattle.importer.proofs.Variables.{Several}
use Rattle.importer.proofs.columns.Given as goal

abbrev pub invariant-loop-k : goal.invariant-loop-k
invariant-loop-k l = Several l.t.floors.now l.t.rows l.limit l.from l.t.text.now l.at l.initial.out l.place l.k l.next l.out l.to
