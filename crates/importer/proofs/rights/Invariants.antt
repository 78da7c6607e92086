-- `importer::rights` meets its contract.
use lib.ListN.{length}
use Rattle.importer.specs.Sections.{side_at, side_bytes}
use Rattle.importer.proofs.Walking.{Each}
use Rattle.importer.proofs.rights.Given as goal

abbrev pub invariant-loop-i : goal.invariant-loop-i
invariant-loop-i l = Each (side_at l.t.floors.now) (side_bytes (length l.t.floors.now)) l.t.rows l.t.text.now l.at l.initial.out l.place l.i l.next l.out l.to
