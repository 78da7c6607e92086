-- `lexer::run_length` meets its contract.
use mathlib.Core.Bool.{Bool}
use mathlib.Core.Path.{◌≡◌}
use Prim.Native.Nat.{ℕ}
use Rattle.lexer.proofs.Runs.{Run}
use Rattle.lexer.proofs.run_length.Given as goal

abbrev pub invariant-loop-i : goal.invariant-loop-i
invariant-loop-i g l = (c : ℕ → Bool) → ((b : ℕ) (r : Bool) → goal.F-post g l.test b r → r ≡ c b) → Run l.s l.at c l.i
