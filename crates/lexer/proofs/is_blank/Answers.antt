-- `lexer::is_blank` meets its contract.
use mathlib.Core.Path.{refl}
use Rattle.lexer.specs.Text.{is_blank}
use Rattle.lexer.proofs.is_blank.Goals as goal

pub returns : goal.returns
unfolding is_blank
returns c = refl
