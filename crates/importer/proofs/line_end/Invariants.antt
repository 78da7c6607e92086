-- `importer::line_end` meets its contract.
use Rattle.importer.proofs.Values.{Running}
use Rattle.importer.proofs.line_end.Given as goal

abbrev pub invariant-loop-i : goal.invariant-loop-i
invariant-loop-i l = Running l.text l.at l.i
