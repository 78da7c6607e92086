-- `lexer::is_capital` meets its contract.
use mathlib.Core.Path.{refl}
use Rattle.lexer.specs.Text.{is_capital}
use Rattle.lexer.proofs.is_capital.Goals as goal

pub returns : goal.returns
unfolding is_capital
returns c = refl
