-- `lexer::is_small` meets its contract.
use mathlib.Core.Path.{refl}
use Rattle.lexer.specs.Text.{is_small}
use Rattle.lexer.proofs.is_small.Goals as goal

pub returns : goal.returns
unfolding is_small
returns c = refl
