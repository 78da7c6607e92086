-- `exporter::rights` meets its contract.
use Prim.Native.Nat.{◌+◌, ◌-◌, ◌*◌, ◌≤◌}
use Rattle.listing.proofs.Writing.{Left}
use Rattle.exporter.specs.Texts.{text_from, right_text}
use Rattle.exporter.proofs.rights.Given as goal

abbrev pub invariant-loop-i : goal.invariant-loop-i
invariant-loop-i l =
    (l.next ≤ l.at + 256 * l.i) × Left l.initial.out l.at (text_from (right_text l.t.slots.now l.t.less) l.t.n 0) l.out l.next (text_from (right_text l.t.slots.now l.t.less) (l.t.n - l.i) l.i)
