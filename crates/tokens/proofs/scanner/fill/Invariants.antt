-- `scanner::fill` meets its contract.
use Rattle.tokens.proofs.scanner.Filling.{Filling}
use Rattle.tokens.proofs.scanner.fill.Given as goal

abbrev pub invariant-loop-i : goal.invariant-loop-i
invariant-loop-i l = Filling l.text l.initial.table l.table l.source l.i
