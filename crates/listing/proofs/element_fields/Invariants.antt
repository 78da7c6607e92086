-- `listing::element_fields` meets its contract.
use mathlib.Core.List.{map}
use Prim.Native.Nat.{◌+◌, ◌*◌, ◌≤◌}
use lib.ListN.{drop}
use Rattle.store.specs.Element.{list_of}
use Rattle.language.specs.Listing.{fields}
use Rattle.listing.specs.Shown.{shown_whole}
use Rattle.listing.proofs.Writing.{Left}
use Rattle.listing.proofs.element_fields.Given as goal

abbrev pub invariant-loop-i : goal.invariant-loop-i
invariant-loop-i l = (l.next ≤ l.at + 32 * l.i) × Left l.initial.out l.at (fields (map shown_whole (list_of l.e))) l.out l.next (fields (map shown_whole (drop l.i (list_of l.e))))
