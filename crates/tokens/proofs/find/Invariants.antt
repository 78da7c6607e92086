-- `tokens::find` meets its contract.
use Prim.Native.Nat.{◌*◌}
use Rattle.tokens.proofs.Tables.{Tells}
use Rattle.tokens.specs.Stored.{spelling}
use Rattle.tokens.proofs.find.Given as goal

abbrev pub invariant-loop-number : goal.invariant-loop-number
invariant-loop-number l = Tells l.text (spelling l.text l.p l.n) l.names (l.number * 5) l.number
