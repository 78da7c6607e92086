-- `importer::cells` meets its contract.
use Rattle.importer.specs.Sections.{cell_at, cell_bytes}
use Rattle.importer.proofs.Walking.{Each}
use Rattle.importer.proofs.cells.Given as goal

abbrev pub invariant-loop-i : goal.invariant-loop-i
invariant-loop-i l = Each (cell_at l.t.floors.now l.j) (cell_bytes l.j) l.t.rows l.t.text.now l.at l.initial.out l.place l.i l.next l.out l.to
