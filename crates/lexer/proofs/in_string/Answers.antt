-- `lexer::in_string` meets its contract.
use mathlib.Core.Path.{refl}
use Rattle.lexer.specs.Text.{in_string}
use Rattle.lexer.proofs.in_string.Goals as goal

pub returns : goal.returns
unfolding in_string
returns c = refl
