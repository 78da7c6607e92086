-- `exporter::columns` meets its contract.
use Prim.Native.Nat.{◌+◌, ◌-◌, ◌*◌, ◌≤◌}
use Rattle.listing.proofs.Writing.{Left}
use Rattle.exporter.specs.Texts.{text_from, column_text}
use Rattle.exporter.proofs.columns.Given as goal

abbrev pub invariant-loop-j : goal.invariant-loop-j
invariant-loop-j l =
    (l.next ≤ l.at + 262272 * (l.j - l.from)) × Left l.initial.out l.at (text_from (column_text l.t.slots.now l.t.counts.now l.t.less l.t.n) (l.to - l.from) l.from) l.out l.next (text_from (column_text l.t.slots.now l.t.counts.now l.t.less l.t.n) (l.to - l.j) l.j)
