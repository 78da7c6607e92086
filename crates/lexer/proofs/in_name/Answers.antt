-- `lexer::in_name` meets its contract.
use mathlib.Core.Path.{refl}
use Rattle.value.specs.Literal.{is_digit}
use Rattle.lexer.specs.Text.{is_small, in_name}
use Rattle.lexer.proofs.in_name.Goals as goal

pub returns : goal.returns
unfolding in_name is_small is_digit
returns c = refl
