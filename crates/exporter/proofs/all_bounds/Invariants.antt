-- `exporter::all_bounds` meets its contract.
use Prim.Native.Nat.{◌+◌, ◌-◌, ◌*◌, ◌≤◌}
use Rattle.listing.proofs.Writing.{Left}
use Rattle.exporter.specs.Texts.{text_from, bound_text}
use Rattle.exporter.proofs.all_bounds.Given as goal

abbrev pub invariant-loop-j : goal.invariant-loop-j
invariant-loop-j l =
    (l.next ≤ l.at + 256 * l.j) × Left l.initial.out l.at (text_from (bound_text l.bounds) l.n 0) l.out l.next (text_from (bound_text l.bounds) (l.n - l.j) l.j)
