-- `listing::put_text` meets its contract.
use mathlib.Core.Path.{◌≡◌}
use Prim.Native.Nat.{◌+◌}
use lib.ListN.{drop}
use Rattle.listing.proofs.Writing.{Left}
use Rattle.listing.proofs.put_text.Given as goal

abbrev pub invariant-loop-b : goal.invariant-loop-b
invariant-loop-b l = (l.next ≡ l.at + l.b-index) × Left l.initial.out l.at l.t l.out l.next (drop l.b-index l.t)
