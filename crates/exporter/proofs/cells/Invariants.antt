-- `exporter::cells` meets its contract.
use Prim.Native.Nat.{◌+◌, ◌-◌, ◌*◌, ◌≤◌}
use Rattle.listing.proofs.Writing.{Left}
use Rattle.exporter.specs.Texts.{text_from, cell_text}
use Rattle.exporter.proofs.cells.Given as goal

abbrev pub invariant-loop-i : goal.invariant-loop-i
invariant-loop-i l =
    (l.next ≤ l.at + 512 * l.i) × Left l.initial.out l.at (text_from (cell_text l.t.slots.now l.t.counts.now l.t.less l.j) l.t.n 0) l.out l.next (text_from (cell_text l.t.slots.now l.t.counts.now l.t.less l.j) (l.t.n - l.i) l.i)
