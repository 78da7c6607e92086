-- `lexer::is_digit` meets its contract.
use mathlib.Core.Path.{refl}
use Rattle.value.specs.Literal.{is_digit}
use Rattle.lexer.proofs.is_digit.Goals as goal

pub returns : goal.returns
unfolding is_digit
returns c = refl
