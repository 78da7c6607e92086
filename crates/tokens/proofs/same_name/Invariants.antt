-- `tokens::same_name` meets its contract.
use Rattle.tokens.proofs.Tables.{Alike}
use Rattle.tokens.proofs.same_name.Given as goal

abbrev pub invariant-loop-i : goal.invariant-loop-i
invariant-loop-i l = Alike l.text l.p l.q l.n l.m l.i
