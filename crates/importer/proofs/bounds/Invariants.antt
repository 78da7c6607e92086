-- `importer::bounds` meets its contract.
use Rattle.importer.specs.Sections.{bounds_at, bounds_bytes}
use Rattle.importer.proofs.Walking.{Each}
use Rattle.importer.proofs.bounds.Given as goal

abbrev pub invariant-loop-j : goal.invariant-loop-j
invariant-loop-j l = Each bounds_at (bounds_bytes l.discrete) l.variables l.text l.at l.initial.out l.place l.j l.next l.out l.to
